-- Reading a text: the instruction whose line it is, or a refusal's number and column. `Line-read` and `column-read` (proofs/Statements.antt) say what it
-- is in the words of `line_of` alone.
use Rattle.std.specs.Prelude.{ℕ, suc, List}
use Rattle.formats.specs.Format.{on_out}
use Rattle.formats.specs.Whole.{whole}
use Rattle.decoder.specs.declared.Instruction.{Instruction}
use Rattle.lines.specs.Mirror.Line.{line}

pub data Reading : Type 0 where
  is_line : Instruction → Reading
  not_read : ℕ → ℕ → Reading

-- "16 for text that is no printed line, with the first column"
abbrev pub no_line : ℕ → Reading
no_line column = not_read 16 column

unfoldable pub reading_of : List ℕ → Reading
reading_of t = on_out (whole line t) (λ k. no_line (suc k)) (λ i e. is_line i)

abbrev pub on_reading {ℓ} : {X : Type ℓ} → Reading → (Instruction → X) → (ℕ → ℕ → X) → X
on_reading (is_line i) f g = f i
on_reading (not_read number column) f g = g number column
