-- The rule of each stored number: the refusal that it gets, 0 for none. Document 01, "Bytes of an instruction": "Bits not named are zero",
-- and "The numbers given back": "2 or 3, then 4 for class and modifier".
use Rattle.std.specs.Prelude.{ℕ, ◌/◌, ◌%◌, Bool, cond, not, ◌&&◌, ◌||◌, ltb, leb, eqb}
use Rattle.element_types.specs.Types.{is_listed}
use Rattle.exec_byte.specs.Exec.{exec_reserved, exec_size}
use Rattle.predicate_field.specs.Predicate.{predicate_reserved}
use Rattle.fields.specs.declared.TagRule.{TagRule}
use Rattle.fields.specs.declared.TagRule.TheVariants as tag
use Rattle.fields.specs.declared.ByteRule.{ByteRule}
use Rattle.fields.specs.declared.ByteRule.TheVariants as byte
use Rattle.fields.specs.declared.WordRule.{WordRule}
use Rattle.fields.specs.declared.WordRule.TheVariants as word
use Rattle.fields.specs.Tags.{tag_of, GENERAL, IMMEDIATE}

unfoldable pub judged : Bool → ℕ → ℕ
judged good number = cond good 0 number

unfoldable pub exec_good : ℕ → Bool
exec_good v = not (exec_reserved v)

-- "scatter 8 and 16 only"
unfoldable pub scatter_exec_good : ℕ → Bool
scatter_exec_good v = exec_good v && (eqb (exec_size v) 8 || eqb (exec_size v) 16)

unfoldable pub predicate_good : ℕ → Bool
predicate_good v = not (predicate_reserved v)

-- "region uw (bits 0-3 vertical, 4-7 width, 8-11 horizontal stride; codes 0 Null, 1..7 ..)": "a region code over 7" is 3
unfoldable pub region_good : ℕ → Bool
region_good v = eqb (v / 4096) 0 && (ltb (v % 16) 8 && (ltb (v / 16 % 16) 8 && ltb (v / 256 % 16) 8))

-- "Channels: low four bits, not all zero"
unfoldable pub channels_good : ℕ → Bool
channels_good v = ltb 0 v && ltb v 16

-- "NumSrc 1-15"
unfoldable pub source_count_good : ℕ → Bool
source_count_good v = leb 1 v && leb v 15

-- "any class but General, or Immediate on a source, is 4": by the operand's role
unfoldable pub class_good : TagRule → ℕ → Bool
class_good tag.Destination class = eqb class GENERAL
class_good tag.Source class = eqb class GENERAL || eqb class IMMEDIATE
class_good tag.Scalar class = eqb class GENERAL || eqb class IMMEDIATE

-- modifiers are left out
unfoldable pub tag_good : TagRule → ℕ → Bool
tag_good rule v = eqb (tag_of v).modifier 0 && class_good rule (tag_of v).class

-- a bit that is not named: 3; then class and modifier: 4
unfoldable pub tag_refusal : TagRule → ℕ → ℕ
tag_refusal rule v = cond (eqb (tag_of v).unnamed 0) (judged (tag_good rule v) 4) 3

unfoldable pub byte_refusal : ByteRule → ℕ → ℕ
byte_refusal byte.Free v = 0
byte_refusal byte.Exec v = judged (exec_good v) 3
byte_refusal byte.ScatterExec v = judged (scatter_exec_good v) 3
-- "Num_blocks codes 0, 1, 2 are 1, 2, 4 bytes"
byte_refusal byte.NumBlocks v = judged (ltb v 3) 3
byte_refusal byte.Channels v = judged (channels_good v) 3
-- page 002: "Bit[0]: Determines whether send or sendc should be used"
byte_refusal byte.Modifiers v = judged (ltb v 2) 3
byte_refusal byte.NumSrc v = judged (source_count_good v) 3
-- "NumDst 0-16"
byte_refusal byte.NumDst v = judged (leb v 16) 3
byte_refusal (byte.Tag rule) v = tag_refusal rule v
-- "An immediate type code not listed above .. 3"
byte_refusal byte.ImmediateType v = judged (is_listed v) 3

unfoldable pub word_refusal : WordRule → ℕ → ℕ
word_refusal word.Free v = 0
word_refusal word.Predicate v = judged (predicate_good v) 3
word_refusal word.Region v = judged (region_good v) 3
