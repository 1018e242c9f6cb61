-- Reading a field. Document 01, "The numbers given back": "Decoding .. goes by field: 1 for a field not whole, then 2 or 3, then 4".
use Rattle.std.specs.Prelude.{ℕ, List, cond, eqb}
use Rattle.reader.specs.Reply.{Reply, refused, Read, got, and_then}
use Rattle.reader.specs.Reading.{read_at}
use Rattle.fields.specs.declared.ByteRule.{ByteRule}
use Rattle.fields.specs.declared.WordRule.{WordRule}
use Rattle.fields.specs.Rules.{byte_refusal, word_refusal}

-- a number that was read, or the refusal that it gets, 0 for none
unfoldable pub judged_read : {A : Type 0} → (A → ℕ) → Read A → Reply (Read A)
judged_read refusal r = cond (eqb (refusal r.value) 0) (got r.value r.next) (refused (refusal r.value))

unfoldable pub byte_field_at : ByteRule → List ℕ → ℕ → Reply (Read ℕ)
byte_field_at rule s at = and_then (read_at 1 s at) (judged_read (byte_refusal rule))

unfoldable pub word_field_at : WordRule → List ℕ → ℕ → Reply (Read ℕ)
word_field_at rule s at = and_then (read_at 2 s at) (judged_read (word_refusal rule))

-- no stored number of four bytes has a rule
unfoldable pub dword_field_at : List ℕ → ℕ → Reply (Read ℕ)
dword_field_at s at = read_at 4 s at
