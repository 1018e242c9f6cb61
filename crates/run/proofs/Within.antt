-- What a run answers is small: no more instructions are completed than bytes lie before the position, and the position lies in the kernel or
-- at its end.
use mathlib.Core.Path.{◌≡◌, refl}
use mathlib.Core.Bool.{Bool, true, false}
use Prim.Native.Nat.{ℕ, ◌≤◌}
use native.Mathlib.Omega.{arith}
use lib.ListN.{length}
use Rattle.little_endian.specs.LittleEndian.{Bytes}
use Rattle.tables.specs.Tables.{tables_good}
use Rattle.tables.proofs.Laws.{limited}
use Rattle.step.specs.State.{Setup, State, lengths_of}
use Rattle.step.specs.Step.{Stepped, step_at}
use Rattle.step.proofs.Forward.{Forward, step-forward}
use Rattle.run.specs.Run.{Outcome, run}
use Rattle.run.specs.Ran.{Ran, ended, refused_at, went}
use Rattle.run.proofs.Whole.{tables-refused}
use Rattle.run.proofs.Fuel.{run_ran}

pub record Within (end : ℕ) (r : Outcome) : Type 0 where
  pub before : r.answer.completed ≤ r.answer.position
  pub inside : r.answer.position ≤ end

module _ (step : ℕ → State → Stepped) (end : ℕ) (forward : (at : ℕ) (s : State) → (step at s).effect.number ≡ 0 → Forward end at (step at s).next) where
  pub ran-within : {completed at : ℕ} {s : State} {r : Outcome} → Ran step end completed at s r → completed ≤ at → at ≤ end → Within end r
  ran-within ended h k = record { before = h; inside = k }
  ran-within (refused_at l e) h k = record { before = h; inside = k }
  ran-within {completed} {at} {s} (went l e rest) h k =
      let f = forward at s e in
      ran-within rest (omega (arith, f.0)) f.1

-- 13 answers 0 and 0, and a kernel that 13 lets pass has at most 4,096 bytes
pub run-within : (x : Setup) (s : State) → Bytes x.kernel → Within 4096 (run x s)
run-within x s b = told (tables_good (lengths_of x s) x.tables) refl
  where
    told : (q : Bool) → tables_good (lengths_of x s) x.tables ≡ q → Within 4096 (run x s)
    told true good =
        let w = ran-within (step_at x) (length x.kernel) (step-forward x b) (run_ran x s b good) (omega arith) (omega arith) in
        record { before = w.before; inside = omega (arith, w.inside, (limited (lengths_of x s) x.tables good).kernel-small) }
    told false bad = rw (tables-refused x s bad) (record { before = omega arith; inside = omega arith })
