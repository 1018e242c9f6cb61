-- The number of bytes that each kind of operand has at most.
use mathlib.Core.List.{[], ◌∷◌}
use mathlib.Core.Bool.{Bool, true, false, cond}
use native.Mathlib.Omega.{arith}
use Rattle.element_types.specs.Types.{has_high_word}
use Rattle.fields.specs.declared.TagRule.{TagRule}
use Rattle.fields.specs.declared.Field.TheVariants.{Dword, Lacking}
use Rattle.fields.proofs.FieldLaws.{AtMost, at-most-nil, at-most-byte, at-most-word, at-most-dword, at-most-lacking}
use Rattle.operand_fields.specs.declared.Raw.{Raw}
use Rattle.operand_fields.specs.declared.Operand.{Operand}
use Rattle.operand_fields.specs.declared.Operand.TheVariants as operand
use Rattle.operand_fields.specs.Layout.{high_field, operand_fields, raw_fields}

pub operand-at-most : (rule : TagRule) (x : Operand) → AtMost 10 (operand_fields rule x)
unfolding operand_fields high_field
operand-at-most rule (operand.General g) =
    let h : AtMost 7 (operand_fields rule (operand.General g)) = at-most-byte _ _ _ 6 (at-most-word _ _ _ 4 (at-most-byte _ _ _ 3 (at-most-byte _ _ _ 2 (at-most-word _ _ _ 0 at-most-nil)))) in
    omega arith
operand-at-most rule (operand.Immediate i) =
    at-most-byte _ _ _ 9 (at-most-byte _ _ _ 8 (at-most-dword _ _ 4 (high (has_high_word i.code))))
  where
    high : (b : Bool) → AtMost 4 (cond b (Dword i.high) (Lacking i.high) ∷ [])
    high true = at-most-dword _ _ 0 at-most-nil
    high false = let h : AtMost 0 (Lacking i.high ∷ []) = at-most-lacking _ _ 0 at-most-nil in omega arith

pub raw-at-most : (x : Raw) → AtMost 4 (raw_fields x)
unfolding raw_fields
raw-at-most x = at-most-word _ _ _ 2 (at-most-word _ _ _ 0 at-most-nil)
