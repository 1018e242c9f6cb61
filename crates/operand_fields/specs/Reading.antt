-- Reading each kind of operand, field by field. Document 01, "The numbers given back": "Decoding needs no tables and goes by field: 1 for a
-- field not whole, then 2 or 3, then 4 for class and modifier."
use Rattle.std.specs.Prelude.{ℕ, List, Bool, cond, eqb}
use Rattle.element_types.specs.Types.{has_high_word}
use Rattle.reader.specs.Reply.{Reply, refused, Read, got, and_then}
use Rattle.fields.specs.declared.TagRule.{TagRule}
use Rattle.fields.specs.declared.TagRule.TheVariants as tag
use Rattle.fields.specs.declared.ByteRule.TheVariants as byte
use Rattle.fields.specs.declared.WordRule.TheVariants as word
use Rattle.fields.specs.Tags.{tag_of, GENERAL, IMMEDIATE}
use Rattle.fields.specs.Reading.{byte_field_at, word_field_at, dword_field_at}
use Rattle.operand_fields.specs.declared.Operand.{Operand}
use Rattle.operand_fields.specs.declared.Operand.TheVariants.{General, Immediate}
use Rattle.operand_fields.specs.declared.Raw.{Raw}
use Rattle.operand_fields.specs.declared.ScalarAndRaws.{ScalarAndRaws}

-- "General, class 0: index uw, row ub, column ub, region uw"
unfoldable pub general_at : List ℕ → ℕ → Reply (Read Operand)
general_at s at =
    and_then (word_field_at word.Free s at) (λ index.
    and_then (byte_field_at byte.Free s index.next) (λ row.
    and_then (byte_field_at byte.Free s row.next) (λ column.
    and_then (word_field_at word.Region s column.next) (λ region.
    got (General (record { index = index.value; row = row.value; column = column.value; region = region.value })) region.next))))

-- the high word of an immediate: "high ud for UQ only", 0 where the type has none
unfoldable pub high_word_at : Bool → List ℕ → ℕ → Reply (Read ℕ)
high_word_at wide s at = cond wide (dword_field_at s at) (got 0 at)

-- "Immediate, class 5: type ub, low ud, and high ud for UQ only"
unfoldable pub immediate_at : List ℕ → ℕ → Reply (Read Operand)
immediate_at s at =
    and_then (byte_field_at byte.ImmediateType s at) (λ code.
    and_then (dword_field_at s code.next) (λ low.
    and_then (high_word_at (has_high_word code.value) s low.next) (λ high.
    got (Immediate (record { code = code.value; low = low.value; high = high.value })) high.next)))

-- "Vector operand: tag (bits 0-2 class, 3-5 modifier)"; the rule of a tag leaves no class but these two
unfoldable pub operand_at : TagRule → List ℕ → ℕ → Reply (Read Operand)
operand_at rule s at =
    and_then (byte_field_at (byte.Tag rule) s at) (λ tag.
    cond (eqb (tag_of tag.value).class GENERAL) (general_at s tag.next)
    (cond (eqb (tag_of tag.value).class IMMEDIATE) (immediate_at s tag.next)
    (refused 4)))

-- "Raw: index uw, byte offset uw"
unfoldable pub raw_at : List ℕ → ℕ → Reply (Read Raw)
raw_at s at =
    and_then (word_field_at word.Free s at) (λ index.
    and_then (word_field_at word.Free s index.next) (λ offset.
    got (record { index = index.value; offset = offset.value }) offset.next))

-- the last three operands of pages 000 (Address, Element_offset, Src), 001 (Offset, Element_offset, Dst) and 002 (Desc, Src, Dst)
unfoldable pub scalar_and_raws_at : List ℕ → ℕ → Reply (Read ScalarAndRaws)
scalar_and_raws_at s at =
    and_then (operand_at tag.Scalar s at) (λ scalar.
    and_then (raw_at s scalar.next) (λ first.
    and_then (raw_at s first.next) (λ second.
    got (record { scalar = scalar.value; first = first.value; second = second.value }) second.next)))
