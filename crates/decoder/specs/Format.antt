-- An instruction laid out as fields, in the order of its page's Format table: what it is encoded from.
use Rattle.std.specs.Prelude.{ℕ, List, [], ◌∷◌, ◌++◌}
use Rattle.fields.specs.declared.TagRule.TheVariants as tag
use Rattle.fields.specs.declared.ByteRule.TheVariants as byte
use Rattle.fields.specs.declared.WordRule.TheVariants as word
use Rattle.fields.specs.declared.Field.{Field}
use Rattle.fields.specs.declared.Field.TheVariants.{Byte, Word}
use Rattle.fields.specs.Layout.{layout_bytes, layout_refusal}
use Rattle.field_groups.specs.Layout.{control_fields, access_fields, message_fields}
use Rattle.operand_fields.specs.Layout.{operand_fields, raw_fields}
use Rattle.decoder.specs.declared.Shl.{Shl}
use Rattle.decoder.specs.declared.Gather.{Gather}
use Rattle.decoder.specs.declared.Scatter.{Scatter}
use Rattle.decoder.specs.declared.RawSend.{RawSend}
use Rattle.decoder.specs.declared.Instruction.{Instruction}
use Rattle.decoder.specs.declared.Instruction.TheVariants as instruction

unfoldable pub shl_fields : Shl → List Field
shl_fields x =
    (Byte byte.Free 0x24 ∷ [])
    ++ (control_fields byte.Exec x.control
    ++ (operand_fields tag.Destination x.destination
    ++ (operand_fields tag.Source x.source
    ++ operand_fields tag.Source x.count)))

unfoldable pub gather_fields : Gather → List Field
gather_fields x =
    (Byte byte.Free 0x78 ∷ [])
    ++ (control_fields byte.Exec x.control
    ++ (access_fields x.access
    ++ (operand_fields tag.Scalar x.offset
    ++ (raw_fields x.element_offset
    ++ raw_fields x.destination))))

unfoldable pub scatter_fields : Scatter → List Field
scatter_fields x =
    (Byte byte.Free 0x4e ∷ [])
    ++ ((Byte byte.Free 0x07 ∷ [])
    ++ (control_fields byte.ScatterExec x.control
    ++ ((Byte byte.Channels x.channels ∷ [])
    ++ ((Word word.Free x.scale ∷ [])
    ++ (operand_fields tag.Scalar x.address
    ++ (raw_fields x.element_offset
    ++ raw_fields x.source))))))

unfoldable pub raw_send_fields : RawSend → List Field
raw_send_fields x =
    (Byte byte.Free 0x5d ∷ [])
    ++ ((Byte byte.Modifiers x.modifiers ∷ [])
    ++ (control_fields byte.Exec x.control
    ++ (message_fields x.message
    ++ (operand_fields tag.Scalar x.descriptor
    ++ (raw_fields x.source
    ++ raw_fields x.destination)))))

unfoldable pub instruction_fields : Instruction → List Field
instruction_fields (instruction.Shl x) = shl_fields x
instruction_fields (instruction.Gather x) = gather_fields x
instruction_fields (instruction.Scatter x) = scatter_fields x
instruction_fields (instruction.RawSend x) = raw_send_fields x

-- an instruction's bytes, and the number by which it is refused, 0 for none
unfoldable pub instruction_bytes : Instruction → List ℕ
instruction_bytes i = layout_bytes (instruction_fields i)

unfoldable pub instruction_refusal : Instruction → ℕ
instruction_refusal i = layout_refusal (instruction_fields i)
