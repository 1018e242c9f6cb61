-- What a whole run does, said of every one of its instructions. Demand 2: an instruction is refused exactly when the papers' numbers say so;
-- every accepted one leaves each enabled channel the defined result, and no other byte changes.
use Rattle.std.specs.Prelude.{◌≡◌, true, false, ℕ, suc, ◌<◌, length}
use Rattle.refusal.specs.declared.Detail.{Detail}
use Rattle.refusal.specs.declared.Detail.TheVariants as detail
use Rattle.tables.specs.Tables.{tables_good}
use Rattle.step.specs.State.{Setup, State, lengths_of}
use Rattle.step.specs.FirstFailing.{first_failing}
use Rattle.step.specs.Tells.{Tells}
use Rattle.step.specs.Completes.{Completes}
use Rattle.run.specs.Run.{Outcome, stopped}

module _ (x : Setup) where
  -- where a run stops, by which number, and what that tells: at the kernel's end, or at an instruction that fails a test
  pub data Stops (at : ℕ) (s : State) : ℕ → Detail → Type 0 where
    at_end : at ≡ length x.kernel → Stops at s 0 detail.None
    refused_by : {n : ℕ} {d : Detail} → at < length x.kernel → first_failing x at s ≡ suc n → Tells x at s (suc n) d → Stops at s (suc n) d

  -- so many instructions one after the other, from a position and a state: the k-th meets what the ones before it left, and the last left
  -- what the run gives back
  pub record Told (count at : ℕ) (s : State) (r : Outcome) : Type 0 where
    pub positions : ℕ → ℕ
    pub states : ℕ → State
    pub first-position : positions 0 ≡ at
    pub first-state : states 0 ≡ s
    pub each : (k : ℕ) → k < count → Completes x (positions k) (states k) (positions (suc k)) (states (suc k))
    pub last-position : positions count ≡ r.answer.position
    pub last-state : states count ≡ r.state
    pub stops : Stops r.answer.position r.state r.answer.number r.answer.detail

  -- "13 comes first"; else the completed instructions, from the kernel's start and what was lent
  pub data WholeRun (s : State) : Outcome → Type 0 where
    unfit : tables_good (lengths_of x s) x.tables ≡ false → WholeRun s (stopped 13 0 0 s)
    ran : {r : Outcome} → tables_good (lengths_of x s) x.tables ≡ true → Told r.answer.completed 0 s r → WholeRun s r
