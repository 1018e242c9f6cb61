-- The assembler's output in parts: what stands in the output buffer, and what is still to come.
use Rattle.std.specs.Prelude.{◌≡◌, ℕ, ◌≤◌, Bool, List, ◌++◌, length, take, drop}
use Rattle.line_blocks.specs.Mirror.Rows.{Row, row}
use Rattle.line_blocks.specs.Mirror.TextOut.{text_out}
use Rattle.assembler.specs.declared.State.{State}
use Rattle.assembler.specs.Assembling.{assembled_line}

-- what is put out for the line that stands in a buffer, or whose start does
unfoldable pub row_assembled : Row → List ℕ
row_assembled w = assembled_line (take w.used w.line)

-- what the output buffer has, and what is to come for the rest of the text: of the block, and `later`
unfoldable pub whole : List ℕ → List ℕ → List ℕ → State → List ℕ → List ℕ
whole block line out s later = take s.out out ++ text_out row_assembled (row line s.begun.used s.begun.long) (drop s.place block ++ later)

-- a step of the program: what has been put out, with what is to come, stays the same whatever text comes later, and the output buffer has room for what is in it
pub record Goes (block line out : List ℕ) (s : State) (line' out' : List ℕ) (r : State) : Type 0 where
  pub same : (later : List ℕ) → whole block line' out' r later ≡ whole block line out s later
  pub inside : r.out ≤ length out'

-- a block is taken: what was put out for it, with what is to come for the line begun then, is what is to be put out for the block and whatever comes later
pub record Passes (block line : List ℕ) (used : ℕ) (long : Bool) (line' : List ℕ) (used' : ℕ) (long' : Bool) : Type 0 where
  pub written : List ℕ
  pub same : (later : List ℕ) → written ++ text_out row_assembled (row line' used' long') later ≡ text_out row_assembled (row line used long) (block ++ later)
