-- The plain run. Document 01, "What the bench runs": "A plain run equals a marked run with no marks."
use Rattle.std.specs.Prelude.{ℕ, List, length, replicate}
use Rattle.cells.specs.Buffer.{Buffer}
use Rattle.step.specs.State.{Setup}
use Rattle.run.specs.Answer.{Answer}
use Rattle.run.specs.Run.{Outcome, run}

abbrev pub unmarked : List ℕ → Buffer
unmarked bytes = record { bytes = bytes; taint = replicate (length bytes) 0 }

unfoldable pub plain_run : Setup → List ℕ → List ℕ → List ℕ → Outcome
plain_run x registers surfaces memory =
    run x (record { registers = unmarked registers; surfaces = unmarked surfaces; memory = unmarked memory })

-- what it gives back: the answer, and the bytes of registers and memory
pub record PlainOutcome : Type 0 where
  pub answer : Answer
  pub registers : List ℕ
  pub memory : List ℕ

abbrev pub plain_outcome : Answer → List ℕ → List ℕ → PlainOutcome
plain_outcome answer registers memory = record { answer = answer; registers = registers; memory = memory }

abbrev pub without_marks : Outcome → PlainOutcome
without_marks o = plain_outcome o.answer o.state.registers.bytes o.state.memory.bytes
