-- Reading each group of fields, field by field. Document 01, "The numbers given back": "Decoding needs no tables and goes by field: 1 for a
-- field not whole, then 2 or 3, then 4 for class and modifier."
use Rattle.std.specs.Prelude.{ℕ, List}
use Rattle.reader.specs.Reply.{Reply, Read, got, and_then}
use Rattle.fields.specs.declared.ByteRule.{ByteRule}
use Rattle.fields.specs.declared.ByteRule.TheVariants as byte
use Rattle.fields.specs.declared.WordRule.TheVariants as word
use Rattle.fields.specs.Reading.{byte_field_at, word_field_at, dword_field_at}
use Rattle.field_groups.specs.declared.Control.{Control}
use Rattle.field_groups.specs.declared.Access.{Access}
use Rattle.field_groups.specs.declared.Message.{Message}

-- Exec_size and Pred
unfoldable pub control_at : ByteRule → List ℕ → ℕ → Reply (Read Control)
control_at rule s at =
    and_then (byte_field_at rule s at) (λ exec.
    and_then (word_field_at word.Predicate s exec.next) (λ pred.
    got (record { exec = exec.value; pred = pred.value }) pred.next))

-- page 001: Block_size, Num_blocks, Scale, Surface
unfoldable pub access_at : List ℕ → ℕ → Reply (Read Access)
access_at s at =
    and_then (byte_field_at byte.Free s at) (λ size.
    and_then (byte_field_at byte.NumBlocks s size.next) (λ blocks.
    and_then (word_field_at word.Free s blocks.next) (λ scale.
    and_then (byte_field_at byte.Free s scale.next) (λ surface.
    got (record { block_size = size.value; num_blocks = blocks.value; scale = scale.value; surface = surface.value }) surface.next))))

-- page 002: ExMsgDesc, NumSrc, NumDst
unfoldable pub message_at : List ℕ → ℕ → Reply (Read Message)
message_at s at =
    and_then (dword_field_at s at) (λ extended.
    and_then (byte_field_at byte.NumSrc s extended.next) (λ sources.
    and_then (byte_field_at byte.NumDst s sources.next) (λ destinations.
    got (record { extended = extended.value; num_src = sources.value; num_dst = destinations.value }) destinations.next)))
