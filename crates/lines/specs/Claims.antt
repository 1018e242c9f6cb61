-- The words of the claims about lines: the instructions that have one, the texts with which a line begins, and what a column is.
-- Document 02, request 1: "Print then read gives the same bytes, and each instruction .. has one printed line"; "16 for text that is no printed line,
-- with the first column, from 1, where none goes on so, the one after its end if it stops short".
use Rattle.std.specs.Prelude.{ℕ, ◌+◌, ◌-◌, ◌≤◌, ◌≡◌, List, ◌++◌, ◌⊎◌, length, take}
use Rattle.little_endian.specs.LittleEndian.{Bytes}
use Rattle.decoder.specs.declared.Instruction.{Instruction}
use Rattle.decoder.specs.Format.{instruction_bytes, instruction_refusal}
use Rattle.lines.specs.LineOf.{line_of}

-- the encoder takes it: no field is refused, and each number has the width of its field
abbrev pub Encodes : Instruction → Type 0
Encodes i = (instruction_refusal i ≡ 0) × Bytes (instruction_bytes i)

-- some instruction's line begins with p
pub record LineBegins (p : List ℕ) : Type 0 where
  pub of : Instruction
  pub encodes : Encodes of
  pub rest : List ℕ
  pub text : line_of of ≡ p ++ rest

-- the text is no line; the characters before the column begin one, and the text ends there or no line begins with the characters up to it
pub record IsColumn (t : List ℕ) (column : ℕ) : Type 0 where
  pub none : (i : Instruction) → Encodes i → line_of i ≡ t → ⊥
  pub first : 1 ≤ column
  pub last : column ≤ length t + 1
  pub before : LineBegins (take (column - 1) t)
  pub here : (column ≡ length t + 1) ⊎ (LineBegins (take column t) → ⊥)
