-- A completed instruction: it is decoded, fails no test, and leaves its results; the next one begins at its end.
use Rattle.std.specs.Prelude.{◌≡◌, ℕ}
use Rattle.reader.specs.Reply.{got}
use Rattle.decoder.specs.declared.Instruction.{Instruction}
use Rattle.decoder.specs.Decoding.{instruction_at}
use Rattle.plan.specs.Checked.{checked}
use Rattle.step.specs.State.{Setup, State, register_bytes}
use Rattle.step.specs.Leaves.{Leaves}
use Rattle.step.specs.FirstFailing.{first_failing}

-- from a position and a state to the next ones
pub record Completes (x : Setup) (at : ℕ) (s : State) (next : ℕ) (u : State) : Type 0 where
  pub instruction : Instruction
  pub decodes : instruction_at x.kernel at ≡ got instruction next
  pub passes : first_failing x at s ≡ 0
  pub leaves : Leaves x (checked (register_bytes x) x.tables instruction) s u
