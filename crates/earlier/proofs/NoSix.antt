-- 6 is given no more: an instruction's tests before data give one of 20 to 25 exactly where document 01's one rule gives 6.
use Prim.Native.Nat.{ℕ}
use mathlib.Core.Path.{◌≡◌, refl, sym, subst}
use mathlib.Core.Bool.{Bool, true, false, cond}
use lib.Dec.{eqb}
use Rattle.refusal.specs.Details.{names_operand}
use Rattle.tables.specs.Tables.{Tables}
use Rattle.decoder.specs.declared.Instruction.{Instruction}
use Rattle.plan.specs.Checked.{checked}
use Rattle.earlier.specs.OneRegionRule.{number_before, as_before}
use Rattle.earlier.specs.Given.{is_given_uncounted, is_given}
use Rattle.earlier.proofs.OneRegionRule.{checked-before}
use Rattle.earlier.proofs.Given.{passes-not, checked-given}

six-is-none : is_given 6 ≡ false
unfolding is_given is_given_uncounted names_operand
six-is-none = refl

-- an instruction is refused by one of 20 to 25 exactly where the one rule refused it by 6
pub six-exactly : (register_size : ℕ) (t : Tables) (i : Instruction) → names_operand (checked register_size t i).number ≡ eqb (number_before register_size t i) 6
unfolding as_before
six-exactly register_size t i = subst (λ (n : ℕ). names_operand (checked register_size t i).number ≡ eqb n 6) (checked-before register_size t i) (told (names_operand (checked register_size t i).number) refl)
  where
    told : (q : Bool) → names_operand (checked register_size t i).number ≡ q → q ≡ eqb (cond q 6 (checked register_size t i).number) 6
    told true e = refl
    told false e = sym (passes-not is_given 6 six-is-none (checked register_size t i).number (checked-given register_size t i))
