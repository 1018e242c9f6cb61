-- A field of one byte or of two is a stored number, judged by its rule.
use Rattle.std.specs.Prelude.{◌≡◌, ℕ, List, refl}
use Rattle.little_endian.specs.LittleEndian.{number_at}
use Rattle.reader.specs.Reply.{and_then}
use Rattle.reader.specs.Reading.{read_at, stored_at}
use Rattle.fields.specs.declared.ByteRule.{ByteRule}
use Rattle.fields.specs.declared.WordRule.{WordRule}
use Rattle.fields.specs.Rules.{byte_refusal, word_refusal}
use Rattle.fields.specs.Reading.{judged_read, byte_field_at, word_field_at}

pub byte_reads : (rule : ByteRule) (s : List ℕ) (at : ℕ) → byte_field_at rule s at ≡ and_then (stored_at 1 (number_at 1) s at) (judged_read (byte_refusal rule))
unfolding byte_field_at read_at
byte_reads rule s at = refl

pub word_reads : (rule : WordRule) (s : List ℕ) (at : ℕ) → word_field_at rule s at ≡ and_then (stored_at 2 (number_at 2) s at) (judged_read (word_refusal rule))
unfolding word_field_at read_at
word_reads rule s at = refl
