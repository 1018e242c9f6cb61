-- A kind without a place: there is nothing to set.
use mathlib.Core.Path.{◌≡◌}
use mathlib.Core.List.{List}
use Prim.Native.Nat.{ℕ, ◌≤◌}
use native.Mathlib.Omega.{arith}
use lib.ListN.{length, set}
use lib.Seq.{set_out}
use Rattle.tally.specs.declared.Case.{Case}
use Rattle.tally.specs.Mirror.Lines.{KINDS, counted, sized}

abbrev pub Places : List ℕ → Type 0
Places l = length l ≡ KINDS

no_place : (l : List ℕ) (kind n : ℕ) → Places l → KINDS ≤ kind → set l kind n ≡ l
no_place l kind n p h = set_out l kind n (omega (arith, p, h))

module _ (kind n : ℕ) (c : Case) (h : KINDS ≤ kind) where
  pub not-counted : Places c.met → c ≡ counted kind n c
  unfolding counted
  not-counted p = rw (no_place c.met kind n p h)

  pub not-sized : Places c.lengths → c ≡ sized kind n c
  unfolding sized
  not-sized p = rw (no_place c.lengths kind n p h)
