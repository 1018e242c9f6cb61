-- A run told instruction by instruction, with no bound on its length. Document 01, "How marks move": "completed is one that was run and not
-- refused. The first meets the bytes and marks lent, each later one those that the one before it left."
use Rattle.std.specs.Prelude.{◌≡◌, List, [], ◌++◌, ℕ, suc, ◌<◌}
use Rattle.cells.specs.Writes.{Write}
use Rattle.step.specs.State.{State}
use Rattle.step.specs.Step.{Stepped, after}
use Rattle.run.specs.Run.{Outcome, stopped_with, stopped}

-- of any steps, through a kernel of this length: Ran completed at s r, from a position and a state to the run's outcome
module _ (step : ℕ → State → Stepped) (end : ℕ) where
  pub data Ran : ℕ → ℕ → State → Outcome → Type 0 where
    ended : {completed : ℕ} {s : State} → Ran completed end s (stopped 0 completed end s)
    refused_at : {completed at n : ℕ} {s : State} → at < end → (step at s).effect.number ≡ suc n → Ran completed at s (stopped_with (suc n) (step at s).effect.detail completed at s)
    went : {completed at : ℕ} {s : State} {r : Outcome} → at < end → (step at s).effect.number ≡ 0 → Ran (suc completed) (step at s).next (after (step at s).effect s) r → Ran completed at s r

  -- how many instructions went
  unfoldable pub went_count : {completed at : ℕ} {s : State} {r : Outcome} → Ran completed at s r → ℕ
  went_count ended = 0
  went_count (refused_at h e) = 0
  went_count (went h e rest) = suc (went_count rest)

  -- all that they wrote, in order
  unfoldable pub registers_written : {completed at : ℕ} {s : State} {r : Outcome} → Ran completed at s r → List Write
  registers_written ended = []
  registers_written (refused_at h e) = []
  registers_written (went {completed} {at} {s} {r} h e rest) = (step at s).effect.registers ++ registers_written rest

  unfoldable pub memory_written : {completed at : ℕ} {s : State} {r : Outcome} → Ran completed at s r → List Write
  memory_written ended = []
  memory_written (refused_at h e) = []
  memory_written (went {completed} {at} {s} {r} h e rest) = (step at s).effect.memory ++ memory_written rest
