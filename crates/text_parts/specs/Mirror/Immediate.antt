-- An immediate's text behind its `0x`, `20001:uw`: the whole stored number, the high word above the low one, and the type. From 2 ^ 32 on the type is uq.
use Rattle.std.specs.Prelude.{ℕ, ◌+◌, ◌*◌, ◌-◌, ◌/◌, ◌%◌, List, Bool, cond, ◌&&◌, ◌||◌, ltb, eqb}
use Rattle.formats.specs.Text.{text}
use Rattle.formats.specs.Format.{Format, pair, through}
use Rattle.formats.specs.Words.{table}
use Rattle.formats.specs.Numbers.{number}
use Rattle.element_types.specs.Types.{F, UQ, is_listed, has_high_word}
use Rattle.operand_fields.specs.declared.Immediate.{Immediate}

-- uq first, so that a type's number in `wide_types` is its number in `types`
abbrev pub types : List ℕ
types = text ":uq|:ud|:d|:uw|:w|:ub|:b|:f|"

abbrev pub wide_types : List ℕ
wide_types = text ":uq|"

unfoldable pub type_behind : ℕ → Format ℕ
type_behind n = cond (ltb n 4294967296) (table types) (table wide_types)

-- the code of a type's number in the table, and back
unfoldable pub code_at : ℕ → ℕ
code_at k = cond (eqb k 0) UQ (cond (eqb k 7) F (k - 1))

unfoldable pub place_of : ℕ → ℕ
place_of code = cond (eqb code UQ) 0 (cond (eqb code F) 7 (code + 1))

abbrev pub immediate_to : ℕ × ℕ → Immediate
immediate_to v = record { code = code_at v.1; low = v.0 % 4294967296; high = v.0 / 4294967296 }

abbrev pub immediate_from : Immediate → ℕ × ℕ
immediate_from i = (i.high * 4294967296 + i.low, place_of i.code)

unfoldable pub immediate_parts : Format (ℕ × ℕ)
immediate_parts = pair (number 16 0 18446744073709551615) type_behind

-- a listed type, both words ud, the high one 0 if the type lacks it
unfoldable pub immediate_fits : Immediate → Bool
immediate_fits i = is_listed i.code && (ltb i.low 4294967296 && (ltb i.high 4294967296 && (has_high_word i.code || eqb i.high 0)))

unfoldable pub immediate : Format Immediate
immediate = through immediate_to immediate_from immediate_fits immediate_parts
