-- A raw operand's text, `v1.8`: the variable and the byte offset in it.
use Rattle.std.specs.Prelude.{ℕ, Bool, ◌&&◌, leb}
use Rattle.formats.specs.Text.{text}
use Rattle.formats.specs.Format.{Format, pair, through}
use Rattle.formats.specs.Words.{before}
use Rattle.formats.specs.Numbers.{number}
use Rattle.operand_fields.specs.declared.Raw.{Raw}
use Rattle.text_parts.specs.Mirror.Fields.{decimal}

abbrev pub raw_to : ℕ × ℕ → Raw
raw_to v = record { index = v.0; offset = v.1 }

abbrev pub raw_from : Raw → ℕ × ℕ
raw_from r = (r.index, r.offset)

unfoldable pub raw_parts : Format (ℕ × ℕ)
raw_parts = before (text "v|") (pair (decimal 0 65535 (text ".|")) (λ _. number 10 0 65535))

-- both are uw
unfoldable pub raw_fits : Raw → Bool
raw_fits r = leb r.index 65535 && leb r.offset 65535

unfoldable pub raw : Format Raw
raw = through raw_to raw_from raw_fits raw_parts
