-- The bench's lines and the verdict tell one answer.
use Rattle.std.specs.Prelude.{◌≡◌, List, ◌++◌, ℕ}
use Rattle.refusal.specs.declared.Detail.{Detail}
use Rattle.verdict_line.specs.VerdictLine.{verdict_line}
use Rattle.output.specs.Output.{answer_line}

-- the lines begin with the 40 line of the numbers that the verdict has
pub record SameAnswer (lines verdict : List ℕ) : Type 0 where
  pub number : ℕ
  pub completed : ℕ
  pub position : ℕ
  pub told : Detail
  pub buffers : List ℕ
  pub of-lines : lines ≡ answer_line number completed position ++ buffers
  pub of-verdict : verdict ≡ verdict_line number completed position told
