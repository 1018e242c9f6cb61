-- Elements of a buffer with marks beside one with the same bytes and no marks: equal numbers, and no taint in the second.
use mathlib.Core.Path.{◌≡◌, refl, ap}
use mathlib.Core.Bool.{Bool, true, false, cond}
use mathlib.Core.List.{List}
use Prim.Native.Nat.{ℕ}
use lib.ListN.{get_or}
use Rattle.cells.specs.Buffer.{Buffer, any_tainted}
use Rattle.cells.proofs.Plain.{Plainly, bytes_same, none-untainted}
use Rattle.operands.specs.declared.Elements.{Elements}
use Rattle.staging.specs.Sources.{element_value, element_tainted, either_tainted}

module _ (b c : Buffer) (r : Plainly b c) where
  pub both-plain : {A : Type 0} (f : ℕ → ℕ → A) (x y : Elements) (lane : ℕ) → f (element_value b.bytes x lane) (element_value b.bytes y lane) ≡ f (element_value c.bytes x lane) (element_value c.bytes y lane)
  both-plain f x y lane = ap (λ (l : List ℕ). f (element_value l x lane) (element_value l y lane)) (bytes_same r)

  element-plain : (e : Elements) (lane : ℕ) → element_tainted c.taint e lane ≡ false
  unfolding element_tainted
  element-plain e lane = told e.immediate
    where
      told : (q : Bool) → cond q false (any_tainted c.taint (get_or e.at lane 0) e.size) ≡ false
      told true = refl
      told false = none-untainted c.taint (λ i. (r.cells i).1) (get_or e.at lane 0) e.size

  pub either-plain : (x y : Elements) (lane : ℕ) → either_tainted c.taint x y lane ≡ false
  unfolding either_tainted
  either-plain x y lane = rw (element-plain x lane, element-plain y lane)
