-- Elements of two buffers with equal marks and equal untainted bytes: equal taint, and equal numbers where untainted.
use mathlib.Core.Path.{◌≡◌, refl, ap, ap₂}
use mathlib.Core.Bool.{Bool, true, false, cond}
use Prim.Native.Nat.{ℕ, ◌%◌, ◌^◌}
use lib.ListN.{get_or}
use Rattle.little_endian.specs.LittleEndian.{number_at}
use Rattle.cells.specs.Buffer.{Buffer, any_tainted}
use Rattle.cells.proofs.Related.{or_left, or_right}
use Rattle.cells.proofs.Untainted.{Agreeing, taint-same, number_same}
use Rattle.operands.specs.declared.Elements.{Elements}
use Rattle.staging.specs.Sources.{element_value, element_tainted, either_tainted}

module _ (b c : Buffer) (r : Agreeing b c) where
  pub value_same : (e : Elements) (lane : ℕ) → element_tainted b.taint e lane ≡ false → element_value b.bytes e lane ≡ element_value c.bytes e lane
  unfolding element_value element_tainted
  value_same e lane h = told e.immediate h
    where
      at : ℕ
      at = get_or e.at lane 0

      told : (q : Bool) → cond q false (any_tainted b.taint at e.size) ≡ false → cond q (e.value % 256 ^ e.size) (number_at e.size b.bytes at) ≡ cond q (e.value % 256 ^ e.size) (number_at e.size c.bytes at)
      told true h = refl
      told false h = number_same b c r at e.size h

  -- a function of two elements, where neither is tainted
  pub both-same : (f : ℕ → ℕ → ℕ) (x y : Elements) (lane : ℕ) → either_tainted b.taint x y lane ≡ false → f (element_value b.bytes x lane) (element_value b.bytes y lane) ≡ f (element_value c.bytes x lane) (element_value c.bytes y lane)
  unfolding either_tainted
  both-same f x y lane h =
      ap₂ f (value_same x lane (or_left (element_tainted b.taint x lane) (element_tainted b.taint y lane) h))
      (value_same y lane (or_right (element_tainted b.taint x lane) (element_tainted b.taint y lane) h))

  pub either_same : (x y : Elements) (lane : ℕ) → either_tainted b.taint x y lane ≡ either_tainted c.taint x y lane
  either_same x y lane = ap (λ t. either_tainted t x y lane) (taint-same r)
