-- A turn of the run's loop: a step that goes on, one that is refused, and the end.
use mathlib.Core.Path.{◌≡◌, refl, sym, ◌∙◌}
use Prim.Native.Nat.{ℕ, zero, suc, ◌+◌, ◌-◌, ◌≤◌, ◌<◌}
use native.Mathlib.Omega.{arith}
use native.Mathlib.Numerals.{add-one}
use lib.ListN.{length}
use borrow.Author.Tests.{lt-ltb, le-ltb, ltb-true}
use Rattle.std.specs.Prelude.{Ok, Err}
use Rattle.refusal.specs.declared.Detail.{Detail}
use Rattle.refusal.specs.Numbers.{number_of, detail_of}
use Rattle.refusal.proofs.RuleLaws.{number_some}
use Rattle.step.specs.State.{Setup, State}
use Rattle.step.specs.declared.Stopped.{Stopped}
use Rattle.step.specs.Step.{step_at, after}
use Rattle.step.specs.Borrowed.{Answers}
use Rattle.step.proofs.Kept.{refused-step-keeps}
use Rattle.run.specs.Run.{Outcome, stopped_with, stopped, run_from}
use Rattle.run.proofs.Kept.{refused-stops}

module _ (x : Setup) where
  -- the rest of the run, with this fuel
  abbrev pub rest : ℕ → ℕ → ℕ → State → Outcome
  rest fuel completed at s = run_from (step_at x) (length x.kernel) fuel completed at s

  pub ends : (fuel completed at : ℕ) (s : State) → length x.kernel ≤ at → rest fuel completed at s ≡ stopped 0 completed at s
  unfolding run_from
  ends zero completed at s over = refl
  ends (suc fuel) completed at s over = rw (le-ltb at (length x.kernel) over)

  -- no fuel is left
  pub spent : (fuel completed at : ℕ) (s : State) → fuel ≤ 0 → rest fuel completed at s ≡ stopped 0 completed at s
  unfolding run_from
  spent zero completed at s none = refl
  spent (suc fuel) completed at s none = absurd (omega (arith, none))

  module _ (turns k completed at : ℕ) (s : State) (turn : k < turns) (before : at < length x.kernel) where
    more : turns - k ≡ suc (turns - (k + 1))
    more = omega (arith, turn)

    pub goes : (next : ℕ) (u : State) → Answers (Ok next) (step_at x at s) → u ≡ after (step_at x at s).effect s
        → rest (turns - k) completed at s ≡ rest (turns - (k + 1)) (completed + 1) next u
    unfolding run_from
    goes next u told left = rw (more, lt-ltb at (length x.kernel) before, ← told.number, add-one completed, told.next, left)

    -- a refusal ends the run, with the state as it was
    stopped-by : (n : ℕ) (d : Detail) (u : State) → 0 < n → n ≡ (step_at x at s).effect.number → d ≡ (step_at x at s).effect.detail → u ≡ after (step_at x at s).effect s
        → rest (turns - k) completed at s ≡ stopped_with n d completed at u
    stopped-by zero d u h is tells left = absurd (omega (arith, h))
    stopped-by (suc n) d u h is tells left =
        let kept : u ≡ s = left ∙ refused-step-keeps x at s (λ z. absurd (omega (arith, is, z))) in
        rw (more, kept, tells) (refused-stops (step_at x) (length x.kernel) (turns - (k + 1)) completed at n s before (sym is))

    pub stops : (e : Stopped) (u : State) → Answers (Err e) (step_at x at s) → u ≡ after (step_at x at s).effect s
        → rest (turns - k) completed at s ≡ stopped_with (number_of e.refusal) (detail_of e.refusal) completed at u
    stops e u told left = stopped-by (number_of e.refusal) (detail_of e.refusal) u (ltb-true 0 (number_of e.refusal) (number_some e.refusal)) told.number told.detail left
