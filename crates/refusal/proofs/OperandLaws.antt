-- What an operand's number tells, by the test of the number; and that the values of a detail are all that it tells.
use Prim.Native.Nat.{ℕ}
use mathlib.Core.Path.{◌≡◌, refl, ap}
use mathlib.Core.Bool.{true, false, ◌&&◌}
use mathlib.Core.List.{List}
use lib.Dec.{leb}
use lib.ListN.{get_or}
use Rattle.refusal.specs.declared.Detail.{Detail}
use Rattle.refusal.specs.declared.Detail.TheVariants as detail
use Rattle.refusal.specs.Details.{values_of, names_operand, operand_detail}

pub operand-named : (number place : ℕ) → (leb 20 number && leb number 25) ≡ true → detail.Operand place ≡ operand_detail number place
unfolding operand_detail names_operand
operand-named number place e = rw e

pub operand-unnamed : (number place : ℕ) → (leb 20 number && leb number 25) ≡ false → detail.None ≡ operand_detail number place
unfolding operand_detail names_operand
operand-unnamed number place e = rw e

-- equal values, equal refusal
pub values-tell : (d e : Detail) → values_of d ≡ values_of e → d ≡ e
unfolding values_of
values-tell detail.None detail.None h = refl
values-tell detail.None (detail.Operand p) h = cc
values-tell detail.None (detail.Pair c i) h = cc
values-tell (detail.Operand p) detail.None h = cc
values-tell (detail.Operand p) (detail.Operand q) h = ap (λ (l : List ℕ). detail.Operand (get_or l 0 0)) h
values-tell (detail.Operand p) (detail.Pair c i) h = cc
values-tell (detail.Pair c i) detail.None h = cc
values-tell (detail.Pair c i) (detail.Operand q) h = cc
values-tell (detail.Pair c i) (detail.Pair d j) h = ap (λ (l : List ℕ). detail.Pair (get_or l 0 0) (get_or l 1 0)) h
