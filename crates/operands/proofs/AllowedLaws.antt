-- What is known of the size of a type that is allowed somewhere.
use mathlib.Core.Path.{◌≡◌, refl}
use mathlib.Core.Bool.{Bool, true, false, ◌||◌}
use Prim.Native.Nat.{ℕ, suc, ◌≤◌, ◌<◌}
use native.Mathlib.Omega.{arith}
use lib.Dec.{eqb}
use borrow.Author.Tests.{eqb-true}
use Rattle.element_types.specs.Types.{UD, D, UW, W, UB, B, F, UQ, size_of}
use Rattle.element_types.proofs.Sizes.{sizes, size_small, listed-size}
use Rattle.operands.specs.declared.TypeRule.{TypeRule}
use Rattle.operands.specs.declared.TypeRule.TheVariants as rule
use Rattle.operands.specs.Allowed.{shift_type, dword_type, type_allowed}

-- what follows from each of two tests follows from one of them
either : {P : Type 0} (a b : Bool) → (a ≡ true → P) → (b ≡ true → P) → (a || b) ≡ true → P
either true b p q h = p refl
either false b p q h = q h

-- the sizes that each rule leaves
abbrev pub RuleSize : TypeRule → ℕ → Type 0
RuleSize rule.Shift size = (0 < size) × (size ≤ 4)
RuleSize rule.Offset size = size ≡ 4
RuleSize rule.Dword size = size ≡ 4
RuleSize rule.Address size = size ≡ 8
RuleSize rule.Any size = (0 < size) × (size ≤ 8)

pub rule-size-some : (r : TypeRule) (size : ℕ) → RuleSize r size → 0 < size
rule-size-some rule.Shift size h = h.0
rule-size-some rule.Offset size h = omega arith
rule-size-some rule.Dword size h = omega arith
rule-size-some rule.Address size h = omega arith
rule-size-some rule.Any size h = h.0

module _ (code : ℕ) where
  sized : (type size : ℕ) → size_of type ≡ size → eqb code type ≡ true → size_of code ≡ size
  sized type size e h = rw (eqb-true code type h) e

  shifted : (type size : ℕ) → size_of type ≡ suc size → size ≤ 3 → eqb code type ≡ true → (0 < size_of code) × (size_of code ≤ 4)
  shifted type size e s h = let z = sized type (suc size) e h in (omega arith, omega arith)

  shift-size : shift_type code ≡ true → (0 < size_of code) × (size_of code ≤ 4)
  unfolding shift_type
  shift-size =
      either _ _ (either _ _ (either _ _ (either _ _ (either _ _
      (shifted UD 3 sizes.ud (omega arith)) (shifted D 3 sizes.d (omega arith))) (shifted UW 1 sizes.uw (omega arith)))
      (shifted W 1 sizes.w (omega arith))) (shifted UB 0 sizes.ub (omega arith))) (shifted B 0 sizes.b (omega arith))

  dword-size : dword_type code ≡ true → size_of code ≡ 4
  unfolding dword_type
  dword-size = either _ _ (either _ _ (sized UD 4 sizes.ud) (sized D 4 sizes.d)) (sized F 4 sizes.f)

  pub rule-size : (r : TypeRule) → type_allowed r code ≡ true → RuleSize r (size_of code)
  unfolding type_allowed
  rule-size rule.Shift h = shift-size h
  rule-size rule.Offset h = sized UD 4 sizes.ud h
  rule-size rule.Dword h = dword-size h
  rule-size rule.Address h = sized UQ 8 sizes.uq h
  rule-size rule.Any h = (listed-size code h, size_small code)

-- as the code learns it
pub allowed_some : (r : TypeRule) (code : ℕ) → type_allowed r code ≡ true → 0 < size_of code
allowed_some r code h = rule-size-some r (size_of code) (rule-size code r h)
