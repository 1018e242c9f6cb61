-- Decoding, field by field in the order of each page's Format table. Document 01, "The numbers given back": "Decoding needs no tables and goes
-- by field: 1 for a field not whole, then 2 or 3, then 4 for class and modifier."
use Rattle.std.specs.Prelude.{ℕ, ◌-◌, List, [], cond, take, drop, eqb}
use Rattle.reader.specs.Reply.{Reply, refused, Read, got, on_reply, and_then}
use Rattle.fields.specs.declared.TagRule.TheVariants as tag
use Rattle.fields.specs.declared.ByteRule.TheVariants as byte
use Rattle.fields.specs.declared.WordRule.TheVariants as word
use Rattle.fields.specs.Reading.{byte_field_at, word_field_at}
use Rattle.field_groups.specs.Reading.{control_at, access_at, message_at}
use Rattle.operand_fields.specs.Reading.{operand_at, scalar_and_raws_at}
use Rattle.decoder.specs.declared.Instruction.{Instruction}
use Rattle.decoder.specs.declared.Instruction.TheVariants.{Shl, Gather, Scatter, RawSend}

-- page 004: Exec_size, Pred, Dst, Src0, Src1
unfoldable pub shl_at : List ℕ → ℕ → Reply (Read Instruction)
shl_at s at =
    and_then (control_at byte.Exec s at) (λ control.
    and_then (operand_at tag.Destination s control.next) (λ destination.
    and_then (operand_at tag.Source s destination.next) (λ source.
    and_then (operand_at tag.Source s source.next) (λ count.
    got (Shl (record { control = control.value; destination = destination.value; source = source.value; count = count.value })) count.next))))

-- page 001: Exec_size, Pred, Block_size, Num_blocks, Scale, Surface, Offset, Element_offset, Dst
unfoldable pub gather_at : List ℕ → ℕ → Reply (Read Instruction)
gather_at s at =
    and_then (control_at byte.Exec s at) (λ control.
    and_then (access_at s control.next) (λ access.
    and_then (scalar_and_raws_at s access.next) (λ last.
    got (Gather (record {
      control = control.value;
      access = access.value;
      offset = last.value.scalar;
      element_offset = last.value.first;
      destination = last.value.second;
    })) last.next)))

-- page 000: Exec_size, Pred, Channels, Scale, Address, Element_offset, Src
unfoldable pub scatter_at : List ℕ → ℕ → Reply (Read Instruction)
scatter_at s at =
    and_then (control_at byte.ScatterExec s at) (λ control.
    and_then (byte_field_at byte.Channels s control.next) (λ channels.
    and_then (word_field_at word.Free s channels.next) (λ scale.
    and_then (scalar_and_raws_at s scale.next) (λ last.
    got (Scatter (record {
      control = control.value;
      channels = channels.value;
      scale = scale.value;
      address = last.value.scalar;
      element_offset = last.value.first;
      source = last.value.second;
    })) last.next))))

-- "2: opcode, or SVM sub-opcode, not above"
unfoldable pub svm_at : List ℕ → ℕ → Reply (Read Instruction)
svm_at s at =
    and_then (byte_field_at byte.Free s at) (λ opcode.
    cond (eqb opcode.value 0x07) (scatter_at s opcode.next) (refused 2))

-- page 002: Modifiers, Exec_size, Pred, ExMsgDesc, NumSrc, NumDst, Desc, Src, Dst
unfoldable pub raw_send_at : List ℕ → ℕ → Reply (Read Instruction)
raw_send_at s at =
    and_then (byte_field_at byte.Modifiers s at) (λ modifiers.
    and_then (control_at byte.Exec s modifiers.next) (λ control.
    and_then (message_at s control.next) (λ message.
    and_then (scalar_and_raws_at s message.next) (λ last.
    got (RawSend (record {
      modifiers = modifiers.value;
      control = control.value;
      message = message.value;
      descriptor = last.value.scalar;
      source = last.value.first;
      destination = last.value.second;
    })) last.next))))

-- "SHL (0x24 ..), GATHER_SCALED (0x78 ..), SVM SCATTER4_SCALED (0x4e 0x07 ..), RAW_SEND (0x5d ..)"
unfoldable pub instruction_at : List ℕ → ℕ → Reply (Read Instruction)
instruction_at s at =
    and_then (byte_field_at byte.Free s at) (λ opcode.
    cond (eqb opcode.value 0x24) (shl_at s opcode.next)
    (cond (eqb opcode.value 0x78) (gather_at s opcode.next)
    (cond (eqb opcode.value 0x4e) (svm_at s opcode.next)
    (cond (eqb opcode.value 0x5d) (raw_send_at s opcode.next)
    (refused 2)))))

-- "the decoder hands back the instruction's own bytes as a part of the kernel, an empty part on a refusal"
unfoldable pub own_bytes : List ℕ → ℕ → List ℕ
own_bytes s at = on_reply (instruction_at s at) (λ n. []) (λ i. take (i.next - at) (drop at s))
