-- What the program `assembler` writes: for each line of its input, a text, the encoding of the instruction whose line it is, or where it is no line.
use Rattle.std.specs.Prelude.{ℕ}
use mathlib.Core.List.{List, ◌++◌, map, flatten}
use Rattle.hex_text.specs.Bytes.{hex_of}
use Rattle.formats.specs.Text.{text}
use Rattle.formats.specs.Numerals.{digits_of}
use Rattle.decoder.specs.Format.{instruction_bytes}
use Rattle.lines.specs.Reading.{Reading, on_reading, reading_of}
use Rattle.line_blocks.specs.LinesOf.{line_end, lines_of}

-- `! 16 COLUMN`
unfoldable pub column_line : ℕ → List ℕ
column_line column = text "! 16 " ++ (digits_of 10 column ++ line_end)

abbrev pub line_for : Reading → List ℕ
line_for r = on_reading r (λ i. hex_of (instruction_bytes i) ++ line_end) (λ _ column. column_line column)

-- one line of input
unfoldable pub assembled_line : List ℕ → List ℕ
assembled_line t = line_for (reading_of t)

unfoldable pub assembler_output : List ℕ → List ℕ
assembler_output input = flatten (map assembled_line (lines_of input))
