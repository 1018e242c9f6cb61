-- An encoding that grows field by field: the bytes so far, in room for the longest encoding, or the number of the first field that is refused.
use Rattle.std.specs.Prelude.{ℕ, ◌+◌, List, [], ◌∷◌, cond, set, replicate, ltb, eqb}
use Rattle.reader.specs.Reply.{Reply, refused, done, and_then}
use Rattle.fields.specs.declared.Field.{Field}
use Rattle.fields.specs.Layout.{field_bytes, field_refusal}
use Rattle.encoder.specs.declared.Draft.{Draft}

unfoldable pub empty_draft : Draft
empty_draft = record { length = 0; bytes = replicate 64 0 }

-- a byte past the room is dropped
unfoldable pub with_byte : ℕ → Draft → Draft
with_byte v d = cond (ltb d.length 64) (record { length = d.length + 1; bytes = set d.bytes d.length v }) d

unfoldable pub with_bytes : List ℕ → Draft → Draft
with_bytes [] d = d
with_bytes (v ∷ vs) d = with_bytes vs (with_byte v d)

unfoldable pub with_field : Field → Draft → Reply Draft
with_field f d = cond (eqb (field_refusal f) 0) (done (with_bytes (field_bytes f) d)) (refused (field_refusal f))

unfoldable pub with_fields : List Field → Draft → Reply Draft
with_fields [] d = done d
with_fields (f ∷ fs) d = and_then (with_field f d) (with_fields fs)
