-- Parts that stand behind the names of instructions, in the order of a page's Text line: what three of them end in, and what a gather or a send has besides.
use Rattle.std.specs.Prelude.{ℕ, List, Bool, ◌&&◌, leb}
use Rattle.formats.specs.Text.{text}
use Rattle.formats.specs.Format.{Format, pair}
use Rattle.formats.specs.Words.{before, after}
use Rattle.fields.specs.Rules.{source_count_good}
use Rattle.operand_fields.specs.declared.Raw.{Raw}
use Rattle.operand_fields.specs.declared.Operand.{Operand}
use Rattle.text_parts.specs.Mirror.Fields.{decimal, hexadecimal}
use Rattle.text_parts.specs.Mirror.Raw.{raw_fits, raw}
use Rattle.operand_texts.specs.Mirror.Operand.{operand_fits, source}

abbrev pub space : List ℕ
space = text " |"

-- ---- how all but SHL end: a scalar and two raw operands

unfoldable pub scalar_and_raws : Format (Operand × (Raw × Raw))
scalar_and_raws = pair (after source space) (λ _. pair (after raw space) (λ _. raw))

unfoldable pub scalar_and_raws_fit : Operand → Raw → Raw → Bool
scalar_and_raws_fit scalar first second = operand_fits scalar && (raw_fits first && raw_fits second)

-- ---- page 001: "Num_blocks codes 0, 1, 2 are 1, 2, 4 bytes"; `T1 `

abbrev pub blocks : List ℕ
blocks = text "1 |2 |4 |"

unfoldable pub surface : Format ℕ
surface = before (text "T|") (decimal 0 255 space)

-- ---- page 002: bit 0 of Modifiers is the `c`; `0x1a 1 0 `

abbrev pub send_endings : List ℕ
send_endings = text " |c |"

unfoldable pub message : Format (ℕ × (ℕ × ℕ))
message = pair (hexadecimal 4294967295 space) (λ _. pair (decimal 1 15 space) (λ _. decimal 0 16 space))

unfoldable pub message_fits : ℕ → ℕ → ℕ → Bool
message_fits extended sources destinations = leb extended 4294967295 && (source_count_good sources && leb destinations 16)
