-- The edges of the tests of a General and of a raw operand, computed.
use mathlib.Core.Path.{◌≡◌, refl, sym, subst, fun_ext}
use mathlib.Core.Bool.{Bool, true, false, cond, not, ◌&&◌}
use Prim.Native.Nat.{ℕ, ◌+◌, ◌*◌, ◌%◌}
use lib.Dec.{leb, eqb}
use Rattle.element_types.specs.Types.{UD, UW, F, size_of}
use Rattle.element_types.proofs.Sizes.{sizes}
use Rattle.operand_fields.specs.declared.General.{General}
use Rattle.region_rules.specs.declared.Role.{Role}
use Rattle.regions.specs.declared.Variable.{Variable}
use Rattle.regions.proofs.Edges.{region_number, words, Edges, regions-at-edges}
use Rattle.operands.specs.declared.TypeRule.{TypeRule}
use Rattle.operands.specs.declared.TypeRule.TheVariants as rule
use Rattle.operands.specs.Located.{Located}
use Rattle.operands.specs.Allowed.{shift_type, dword_type, type_allowed}
use Rattle.operands.specs.Elements.{register_elements, refused_operand}
use Rattle.operands.specs.Operands.{general_of, raw_good, raw_of}

number_of : (b : Bool) (x y : Located) → (cond b x y).number ≡ cond b x.number y.number
number_of true x y = refl
number_of false x y = refl

-- past the test of its type, a General operand has the number of its region
general-number : (register_size : ℕ) (o : Role) (r : TypeRule) (lanes : ℕ) (g : General) (v : Variable) → type_allowed r v.code ≡ true → (general_of register_size o r lanes g v).number ≡ region_number register_size o lanes g v
unfolding general_of register_elements refused_operand
general-number register_size o r lanes g v allowed = rw (number_of, number_of, number_of, allowed)

words-allowed : type_allowed rule.Shift UW ≡ true
unfolding type_allowed shift_type
words-allowed = refl

-- UW elements as SHL's operands
general-at-edges : Edges (λ o lanes g count. (general_of 32 o rule.Shift lanes g (words count)).number)
general-at-edges =
    subst Edges (fun_ext (λ o. fun_ext (λ lanes. fun_ext (λ g. fun_ext (λ count. sym (general-number 32 o rule.Shift lanes g (words count) words-allowed))))))
    regions-at-edges

raw-number : (r : TypeRule) (bytes offset : ℕ) (v : Variable) (size : ℕ) → size_of v.code ≡ size
    → (raw_of r bytes offset v).number
    ≡ cond (not (type_allowed r v.code)) 4 (cond (not (eqb (offset % size) 0 && leb (offset + bytes) (v.count * size))) 7 0)
unfolding raw_of raw_good register_elements refused_operand
raw-number r bytes offset v size e = rw (number_of, number_of, e)

-- the number for eight elements of this type
raw_number : TypeRule → ℕ → ℕ → ℕ → ℕ
raw_number r code bytes offset = (raw_of r bytes offset (record { code = code; start = 0; count = 8 })).number

-- "its offset is a multiple of the element size"; "for none, the offset may be the variable's end"
raw-at-edges : (raw_number rule.Offset UD 32 0 ≡ 0)
    × (raw_number rule.Offset UD 32 4 ≡ 7)
    × (raw_number rule.Offset UD 4 2 ≡ 7)
    × (raw_number rule.Offset UD 0 32 ≡ 0)
    × (raw_number rule.Offset UD 0 36 ≡ 7)
    × (raw_number rule.Dword F 32 0 ≡ 0)
    × (raw_number rule.Offset F 33 1 ≡ 4)
unfolding raw_number dword_type type_allowed
raw-at-edges =
    let row : (r : TypeRule) (bytes offset : ℕ) (code : ℕ) → size_of code ≡ 4 → _ = λ r bytes offset code e. raw-number r bytes offset (record { code = code; start = 0; count = 8 }) 4 e in (
      row rule.Offset 32 0 UD sizes.ud,
      row rule.Offset 32 4 UD sizes.ud,
      row rule.Offset 4 2 UD sizes.ud,
      row rule.Offset 0 32 UD sizes.ud,
      row rule.Offset 0 36 UD sizes.ud,
      row rule.Dword 32 0 F sizes.f,
      row rule.Offset 33 1 F sizes.f,
    )
