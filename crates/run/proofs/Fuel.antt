-- The run's length: fuel is never the reason that a run stops. Every run that 13 does not refuse is told instruction by instruction, up to the
-- kernel's end or the first refusal; completed and position are those of the instructions that were run.
use mathlib.Core.Path.{◌≡◌, refl, sym, ◌∙◌, subst}
use mathlib.Core.Logic.{◌≢◌}
use mathlib.Core.Bool.{Bool, true, false, cond}
use Prim.Native.Nat.{ℕ, zero, suc, ◌+◌, ◌≤◌, ◌<◌}
use native.Mathlib.Omega.{arith}
use lib.ListN.{length}
use lib.Dec.{ltb}
use borrow.Author.Tests.{ltb-true, ltb-false, lt-ltb, le-ltb}
use Rattle.little_endian.specs.LittleEndian.{Bytes}
use Rattle.tables.specs.Tables.{tables_good}
use Rattle.step.specs.State.{Setup, State, lengths_of}
use Rattle.step.specs.Step.{Stepped, step_at, after}
use Rattle.step.proofs.Forward.{Forward, step-forward}
use Rattle.run.specs.Run.{Outcome, stopped, settled, run_from}
use Rattle.run.specs.Run as whole
use Rattle.run.specs.Ran.{Ran, ended, refused_at, went, went_count}
use Rattle.run.proofs.Whole.{run_is}

module _ (step : ℕ → State → Stepped) (end : ℕ) (forward : (at : ℕ) (s : State) → (step at s).effect.number ≡ 0 → Forward end at (step at s).next) where
  at-end : (c at : ℕ) (s : State) → at ≡ end → Ran step end c at s (stopped 0 c at s)
  at-end c at s e = subst (λ (n : ℕ). Ran step end c n s (stopped 0 c n s)) (sym e) ended

  abbrev Rest : ℕ → (ℕ → ℕ → State → Outcome) → Type 0
  Rest fuel k = (c at : ℕ) (s : State) → at ≤ end → end ≤ fuel + at → Ran step end c at s (k c at s)

  settled-ran : (k : ℕ → ℕ → State → Outcome) (fuel c at : ℕ) (s : State) → Rest fuel k → at < end → end ≤ suc fuel + at → (n : ℕ) → (step at s).effect.number ≡ n → Ran step end c at s (settled k c at (step at s) s n)
  settled-ran k fuel c at s rest h enough zero e =
      let f = forward at s e in
      went h e (rest (suc c) (step at s).next (after (step at s).effect s) f.1 (omega (arith, f.0)))
  settled-ran k fuel c at s rest h enough (suc n) e = refused_at h e

  pub ran-from : (fuel : ℕ) → Rest fuel (run_from step end fuel)
  unfolding run_from
  ran-from zero c at s inside enough = at-end c at s (omega arith)
  ran-from (suc fuel) c at s inside enough = told (ltb at end) refl (ran-from fuel)
    where
      told : (q : Bool) → ltb at end ≡ q → Rest fuel (run_from step end fuel) → Ran step end c at s (cond q (settled (λ c' a' u. run_from step end fuel c' a' u) c at (step at s) s (step at s).effect.number) (stopped 0 c at s))
      told true e rest = settled-ran (λ c' a' u. run_from step end fuel c' a' u) fuel c at s rest (ltb-true at end e) enough (step at s).effect.number refl
      told false e rest = at-end c at s (omega (arith, ltb-false at end e))

  -- the run is the only outcome that the telling has
  pub ran-only : {c at : ℕ} {s : State} {r : Outcome} → Ran step end c at s r → (fuel : ℕ) → end ≤ fuel + at → r ≡ run_from step end fuel c at s
  unfolding run_from
  ran-only ended zero enough = refl
  ran-only ended (suc fuel) enough = rw (le-ltb end end (omega arith))
  ran-only (refused_at h e) zero enough = absurd (omega (arith, h, enough))
  ran-only {c} {at} (refused_at h e) (suc fuel) enough = rw (lt-ltb at end h, e)
  ran-only (went h e rest) zero enough = absurd (omega (arith, h, enough))
  ran-only {c} {at} {s} (went h e rest) (suc fuel) enough =
      let f = forward at s e in
      rw (lt-ltb at end h, e) (ran-only rest fuel (omega (arith, f.0, enough)))

-- a run whose tables and lengths are good
module _ (x : Setup) (s : State) (b : Bytes x.kernel) (good : tables_good (lengths_of x s) x.tables ≡ true) where
  pub run_ran : Ran (step_at x) (length x.kernel) 0 0 s (whole.run x s)
  run_ran =
      rw (run_is x s, good)
      (ran-from (step_at x) (length x.kernel) (step-forward x b) (length x.kernel) 0 0 s (omega arith) (omega arith))

  pub run_only : {r : Outcome} → Ran (step_at x) (length x.kernel) 0 0 s r → r ≡ whole.run x s
  run_only p = rw (run_is x s, good) (ran-only (step_at x) (length x.kernel) (step-forward x b) p (length x.kernel) (omega arith))

module _ (step : ℕ → State → Stepped) (end : ℕ) where
  -- done means at the kernel's end
  pub done_at_end : {c at : ℕ} {s : State} {r : Outcome} → Ran step end c at s r → r.answer.number ≡ 0 → r.answer.position ≡ end
  done_at_end ended z = refl
  done_at_end (refused_at h e) z = absurd (omega (arith, z))
  done_at_end (went h e rest) z = done_at_end rest z

  -- a refusal is that of the instruction at the answer's position, with the state that the ones before it left
  pub refused-inside : {c at : ℕ} {s : State} {r : Outcome} → Ran step end c at s r → r.answer.number ≢ 0 → (r.answer.position < end) × ((step r.answer.position r.state).effect.number ≡ r.answer.number) × ((step r.answer.position r.state).effect.detail ≡ r.answer.detail)
  refused-inside ended h = absurd (h refl)
  refused-inside (refused_at h e) z = (h, e, refl)
  refused-inside (went h e rest) z = refused-inside rest z

  -- completed counts the instructions that went
  pub completed-is : {c at : ℕ} {s : State} {r : Outcome} → (p : Ran step end c at s r) → r.answer.completed ≡ went_count step end p + c
  unfolding went_count
  completed-is ended = omega arith
  completed-is (refused_at h e) = omega arith
  completed-is {c} (went h e rest) = completed-is rest ∙ omega arith

module _ (x : Setup) (s : State) (b : Bytes x.kernel) (good : tables_good (lengths_of x s) x.tables ≡ true) where
  pub run-done-at-end : (whole.run x s).answer.number ≡ 0 → (whole.run x s).answer.position ≡ length x.kernel
  run-done-at-end = done_at_end (step_at x) (length x.kernel) (run_ran x s b good)

  pub run-refused-inside : (whole.run x s).answer.number ≢ 0 → ((whole.run x s).answer.position < length x.kernel) × ((step_at x (whole.run x s).answer.position (whole.run x s).state).effect.number ≡ (whole.run x s).answer.number) × ((step_at x (whole.run x s).answer.position (whole.run x s).state).effect.detail ≡ (whole.run x s).answer.detail)
  run-refused-inside = refused-inside (step_at x) (length x.kernel) (run_ran x s b good)

  pub run-completed : (whole.run x s).answer.completed ≡ went_count (step_at x) (length x.kernel) (run_ran x s b good)
  run-completed = completed-is (step_at x) (length x.kernel) (run_ran x s b good) ∙ omega arith
