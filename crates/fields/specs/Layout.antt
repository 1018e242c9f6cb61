-- Fields in their order: the bytes that they make, and the first refusal among them.
-- Document 01: "Field order is that of each page's Format table"; the encoder "refuses fields .. as decoding would, in field order
-- (a non-zero high word that the type lacks is 3)".
use Rattle.std.specs.Prelude.{ℕ, List, [], ◌∷◌, ◌++◌, cond, eqb}
use Rattle.little_endian.specs.LittleEndian.{bytes_of}
use Rattle.fields.specs.declared.Field.{Field}
use Rattle.fields.specs.declared.Field.TheVariants as field
use Rattle.fields.specs.Rules.{judged, byte_refusal, word_refusal}

unfoldable pub field_bytes : Field → List ℕ
field_bytes (field.Byte rule v) = bytes_of 1 v
field_bytes (field.Word rule v) = bytes_of 2 v
field_bytes (field.Dword v) = bytes_of 4 v
field_bytes (field.Lacking v) = []

unfoldable pub field_refusal : Field → ℕ
field_refusal (field.Byte rule v) = byte_refusal rule v
field_refusal (field.Word rule v) = word_refusal rule v
field_refusal (field.Dword v) = 0
field_refusal (field.Lacking v) = judged (eqb v 0) 3

unfoldable pub layout_bytes : List Field → List ℕ
layout_bytes [] = []
layout_bytes (f ∷ fs) = field_bytes f ++ layout_bytes fs

-- the first field that is refused decides
unfoldable pub layout_refusal : List Field → ℕ
layout_refusal [] = 0
layout_refusal (f ∷ fs) = cond (eqb (field_refusal f) 0) (layout_refusal fs) (field_refusal f)
