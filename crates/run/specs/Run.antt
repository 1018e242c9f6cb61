-- A run. Document 01, "The numbers given back": "A run answers number, instructions completed and byte position of the refused instruction
-- (or the end). 13 answers 0 and 0. Earlier instructions stand." With the number goes what it tells (document 02, request 2).
use Rattle.std.specs.Prelude.{ℕ, zero, suc, cond, List, ◌∷◌, length, ltb}
use Rattle.refusal.specs.declared.Detail.{Detail}
use Rattle.refusal.specs.declared.Detail.TheVariants as detail
use Rattle.refusal.specs.Details.{values_of}
use Rattle.tables.specs.Tables.{tables_good}
use Rattle.step.specs.State.{Setup, State, lengths_of}
use Rattle.step.specs.Step.{Stepped, step_at, after}
use Rattle.run.specs.Answer.{Answer}

-- "An answer is all the numbers that the run gives back": number, completed, position, and the values of what the number tells
unfoldable pub numbers_of : Answer → List ℕ
numbers_of a = a.number ∷ a.completed ∷ a.position ∷ values_of a.detail

pub record Outcome : Type 0 where
  pub answer : Answer
  pub state : State

abbrev pub outcome : Answer → State → Outcome
outcome answer s = record { answer = answer; state = s }

abbrev pub stopped_with : ℕ → Detail → ℕ → ℕ → State → Outcome
stopped_with number detail completed position s = record { answer = record { number = number; completed = completed; position = position; detail = detail }; state = s }

-- with a number that tells nothing
abbrev pub stopped : ℕ → ℕ → ℕ → State → Outcome
stopped number completed position s = stopped_with number detail.None completed position s

-- a step's number decides: 0, and the rest of the run follows the effect; else the run stops with the state as it was
abbrev pub settled : (ℕ → ℕ → State → Outcome) → ℕ → ℕ → Stepped → State → ℕ → Outcome
settled rest completed at t s zero = rest (suc completed) t.next (after t.effect s)
settled rest completed at t s (suc n) = stopped_with (suc n) t.effect.detail completed at s

-- Of any steps, through a kernel of this length. The fuel bounds the recursion; it is never the reason to stop (`proofs/Fuel.antt`).
unfoldable pub run_from : (ℕ → State → Stepped) → ℕ → ℕ → ℕ → ℕ → State → Outcome
run_from step end zero completed at s = stopped 0 completed at s
run_from step end (suc fuel) completed at s =
    cond (ltb at end)
    (settled (λ c a u. run_from step end fuel c a u) completed at (step at s) s (step at s).effect.number)
    (stopped 0 completed at s)

-- the kernel's instructions, from its start on
abbrev pub run_through : Setup → State → Outcome
run_through x s = run_from (step_at x) (length x.kernel) (length x.kernel) 0 0 s

-- "13 comes first."
unfoldable pub run : Setup → State → Outcome
run x s = cond (tables_good (lengths_of x s) x.tables) (run_through x s) (stopped 13 0 0 s)
