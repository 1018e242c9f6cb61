-- Each instruction, group by group, and the number of bytes that it has at most.
use mathlib.Core.Path.{◌≡◌, refl}
use Prim.Native.Nat.{◌≤◌}
use native.Mathlib.Omega.{arith}
use lib.ListN.{length}
use Rattle.fields.specs.Layout.{layout_bytes, layout_refusal}
use Rattle.fields.proofs.FieldLaws.{AtMost, at-most-nil, at-most-word, at-most-append, ZeroThreeOrFour, layout-refusals}
use Rattle.decoder.specs.declared.Instruction.{Instruction}
use Rattle.decoder.specs.declared.Instruction.TheVariants as instruction
use Rattle.field_groups.proofs.LayoutLaws.{one_at_most, control-at-most, access-at-most, message-at-most}
use Rattle.operand_fields.proofs.LayoutLaws.{operand-at-most, raw-at-most}
use Rattle.decoder.specs.Format.{shl_fields, gather_fields, scatter_fields, raw_send_fields, instruction_fields, instruction_bytes, instruction_refusal}

-- ---- group by group

pub instruction-bytes : (i : Instruction) → instruction_bytes i ≡ layout_bytes (instruction_fields i)
unfolding instruction_bytes
instruction-bytes i = refl

pub instruction-refusal : (i : Instruction) → instruction_refusal i ≡ layout_refusal (instruction_fields i)
unfolding instruction_refusal
instruction-refusal i = refl

-- the numbers by which an instruction is refused
pub instruction-refusals : (i : Instruction) → ZeroThreeOrFour (instruction_refusal i)
instruction-refusals i = rw (instruction-refusal i) (layout-refusals (instruction_fields i))

-- ---- the number of bytes

-- SHL with three immediates of eight bytes is the longest
fields-at-most : (i : Instruction) → AtMost 34 (instruction_fields i)
unfolding instruction_fields shl_fields gather_fields scatter_fields raw_send_fields
fields-at-most (instruction.Shl x) =
    at-most-append _ _ 1 33 (one_at_most _ _) (at-most-append _ _ 3 30 (control-at-most _ _) (at-most-append _ _ 10 20 (operand-at-most _ _) (at-most-append _ _ 10 10 (operand-at-most _ _) (operand-at-most _ _))))
fields-at-most (instruction.Gather x) =
    let h : AtMost 27 (gather_fields x) = at-most-append _ _ 1 26 (one_at_most _ _) (at-most-append _ _ 3 23 (control-at-most _ _) (at-most-append _ _ 5 18 (access-at-most _) (at-most-append _ _ 10 8 (operand-at-most _ _) (at-most-append _ _ 4 4 (raw-at-most _) (raw-at-most _))))) in
    omega arith
fields-at-most (instruction.Scatter x) =
    let h : AtMost 26 (scatter_fields x) = at-most-append _ _ 1 25 (one_at_most _ _) (at-most-append _ _ 1 24 (one_at_most _ _) (at-most-append _ _ 3 21 (control-at-most _ _) (at-most-append _ _ 1 20 (one_at_most _ _) (at-most-append _ _ 2 18 (at-most-word _ _ _ 0 at-most-nil) (at-most-append _ _ 10 8 (operand-at-most _ _) (at-most-append _ _ 4 4 (raw-at-most _) (raw-at-most _))))))) in
    omega arith
fields-at-most (instruction.RawSend x) =
    let h : AtMost 29 (raw_send_fields x) = at-most-append _ _ 1 28 (one_at_most _ _) (at-most-append _ _ 1 27 (one_at_most _ _) (at-most-append _ _ 3 24 (control-at-most _ _) (at-most-append _ _ 6 18 (message-at-most _) (at-most-append _ _ 10 8 (operand-at-most _ _) (at-most-append _ _ 4 4 (raw-at-most _) (raw-at-most _)))))) in
    omega arith

pub instruction-at-most : (i : Instruction) → length (instruction_bytes i) ≤ 34
instruction-at-most i = rw (instruction-bytes i) (fields-at-most i)
