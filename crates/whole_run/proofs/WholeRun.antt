-- Every run is, instruction by instruction, what the papers say: one theorem about whole runs.
use mathlib.Core.Path.{◌≡◌, refl, sym, ap, subst, ◌∙◌}
use mathlib.Core.Bool.{Bool, true, false}
use Prim.Native.Nat.{ℕ, zero, suc, ◌<◌}
use native.Mathlib.Omega.{arith}
use lib.ListN.{length}
use Rattle.little_endian.specs.LittleEndian.{Bytes}
use Rattle.lengths.specs.declared.Lengths.{Lengths}
use Rattle.tables.specs.Tables.{tables_good}
use Rattle.step.specs.State.{Setup, State, lengths_of}
use Rattle.step.specs.Step.{step_at, after}
use Rattle.step.specs.Completes.{Completes}
use Rattle.step.specs.Tells.{Tells}
use Rattle.step.proofs.FirstFailing.{step-number}
use Rattle.step.proofs.StepTells.{step-tells}
use Rattle.step.proofs.Kept.{after-lengths}
use Rattle.step.proofs.Results.{step-completes}
use Rattle.run.specs.Run.{Outcome, run}
use Rattle.run.specs.Ran.{Ran, ended, refused_at, went, went_count}
use Rattle.whole_run.specs.WholeRun.{Stops, at_end, refused_by, Told, WholeRun, unfit, ran}
use Rattle.run.proofs.Whole.{tables-refused}
use Rattle.run.proofs.Fuel.{run_ran, run-completed}

-- one more at the start of a sequence
abbrev onward : {A : Type 0} → A → (ℕ → A) → ℕ → A
onward a rest zero = a
onward a rest (suc k) = rest k

module _ (x : Setup) (b : Bytes x.kernel) where
  abbrev end : ℕ
  end = length x.kernel

  abbrev Good : State → Type 0
  Good s = tables_good (lengths_of x s) x.tables ≡ true

  -- no instruction is completed from here on
  stopped-told : (at : ℕ) (s : State) (r : Outcome) → at ≡ r.answer.position → s ≡ r.state → Stops x r.answer.position r.state r.answer.number r.answer.detail → Told x 0 at s r
  stopped-told at s r position state stops =
      record {
        positions = λ _. at;
        states = λ _. s;
        first-position = refl;
        first-state = refl;
        each = λ k h. absurd (omega (arith, h));
        last-position = position;
        last-state = state;
        stops = stops;
      }

  -- one completed instruction before the others
  went-told : (count at : ℕ) (s : State) (r : Outcome) → Good s → (step_at x at s).effect.number ≡ 0
      → Told x count (step_at x at s).next (after (step_at x at s).effect s) r → Told x (suc count) at s r
  went-told count at s r good done rest =
      record {
        positions = onward at rest.positions;
        states = onward s rest.states;
        first-position = refl;
        first-state = refl;
        each = each;
        last-position = rest.last-position;
        last-state = rest.last-state;
        stops = rest.stops;
      }
    where
      each : (k : ℕ) → k < suc count → Completes x (onward at rest.positions k) (onward s rest.states k) (rest.positions k) (rest.states k)
      each zero h = rw (rest.first-position, rest.first-state) (step-completes x s good b at done)
      each (suc k) h = rest.each k (omega (arith, h))

  ran-told : {completed at : ℕ} {s : State} {r : Outcome} → Good s → (p : Ran (step_at x) end completed at s r) → Told x (went_count (step_at x) end p) at s r
  unfolding went_count
  ran-told {completed} {at} {s} {r} good ended = stopped-told at s r refl refl (at_end refl)
  ran-told {completed} {at} {s} {r} good (refused_at h e) = stopped-told at s r refl refl (refused_by h (sym (step-number x s at) ∙ e) (subst (λ (n : ℕ). Tells x at s n (step_at x at s).effect.detail) e (step-tells x s at)))
  ran-told {completed} {at} {s} {r} good (went h e rest) =
      went-told _ at s r good e (ran-told (ap (λ (l : Lengths). tables_good l x.tables) (after-lengths x (step_at x at s).effect s) ∙ good) rest)

-- of every run, refused ones and 13 included
pub whole_run : (x : Setup) (s : State) → Bytes x.kernel → WholeRun x s (run x s)
whole_run x s b = told (tables_good (lengths_of x s) x.tables) refl
  where
    told : (q : Bool) → tables_good (lengths_of x s) x.tables ≡ q → WholeRun x s (run x s)
    told true good = ran good (subst (λ (n : ℕ). Told x n 0 s (run x s)) (sym (run-completed x s b good)) (ran-told x b good (run_ran x s b good)))
    told false bad = rw (tables-refused x s bad) (unfit bad)
