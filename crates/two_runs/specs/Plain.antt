-- A marked run beside the plain run of the same kernel and bytes. Document 01, "What the bench runs": "A plain run equals a marked run with
-- no marks."
use Rattle.std.specs.Prelude.{◌≡◌, ℕ, get_or}
use Rattle.step.specs.State.{Setup, State}
use Rattle.run.specs.Run.{Outcome}
use Rattle.plain_run.specs.PlainRun.{plain_run}

-- no byte is marked
pub record NoMarks (s : State) : Type 0 where
  pub registers : (i : ℕ) → get_or s.registers.taint i 0 ≡ 0
  pub surfaces : (i : ℕ) → get_or s.surfaces.taint i 0 ≡ 0
  pub memory : (i : ℕ) → get_or s.memory.taint i 0 ≡ 0

-- the plain run over a state's bytes
abbrev pub plainly : Setup → State → Outcome
plainly x s = plain_run x s.registers.bytes s.surfaces.bytes s.memory.bytes

-- the same number, completed instructions, position and detail, and the same bytes
pub record SameAnswerAndBytes (r q : Outcome) : Type 0 where
  pub answer : r.answer ≡ q.answer
  pub registers : r.state.registers.bytes ≡ q.state.registers.bytes
  pub surfaces : r.state.surfaces.bytes ≡ q.state.surfaces.bytes
  pub memory : r.state.memory.bytes ≡ q.state.memory.bytes
