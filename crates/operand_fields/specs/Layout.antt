-- Each kind of operand laid out as fields, in the order of its page's Format table.
use Rattle.std.specs.Prelude.{ℕ, List, [], ◌∷◌, cond}
use Rattle.element_types.specs.Types.{has_high_word}
use Rattle.fields.specs.declared.TagRule.{TagRule}
use Rattle.fields.specs.declared.ByteRule.TheVariants as byte
use Rattle.fields.specs.declared.WordRule.TheVariants as word
use Rattle.fields.specs.declared.Field.{Field}
use Rattle.fields.specs.declared.Field.TheVariants.{Byte, Word, Dword, Lacking}
use Rattle.fields.specs.Tags.{GENERAL, IMMEDIATE}
use Rattle.operand_fields.specs.declared.Raw.{Raw}
use Rattle.operand_fields.specs.declared.Operand.{Operand}
use Rattle.operand_fields.specs.declared.Operand.TheVariants.{General, Immediate}

-- an immediate's high word: "high ud for UQ only"
unfoldable pub high_field : ℕ → ℕ → Field
high_field code high = cond (has_high_word code) (Dword high) (Lacking high)

-- without a modifier a tag is its class
unfoldable pub operand_fields : TagRule → Operand → List Field
operand_fields rule (General g) =
    Byte (byte.Tag rule) GENERAL ∷ Word word.Free g.index ∷ Byte byte.Free g.row ∷ Byte byte.Free g.column ∷ Word word.Region g.region ∷ []
operand_fields rule (Immediate i) =
    Byte (byte.Tag rule) IMMEDIATE ∷ Byte byte.ImmediateType i.code ∷ Dword i.low ∷ high_field i.code i.high ∷ []

unfoldable pub raw_fields : Raw → List Field
raw_fields x = Word word.Free x.index ∷ Word word.Free x.offset ∷ []
