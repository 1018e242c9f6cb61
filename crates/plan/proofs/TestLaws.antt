-- What a passed test says: the plan is what comes after it.
use mathlib.Core.Path.{◌≡◌, refl}
use Prim.Native.Nat.{ℕ}
use native.Mathlib.Omega.{arith}
use lib.Dec.{ltb}
use borrow.Author.Tests.{ltb-true, ltb-false}
use Rattle.refusal.specs.declared.Detail.{Detail}
use Rattle.regions.proofs.ReachLaws.{cond_either}
use Rattle.plan.specs.Plan.{Plan}
use Rattle.plan.specs.Plans.{refused_plan, tested}

pub refusal-number : (n : ℕ) (d : Detail) → (refused_plan n d).number ≡ n
unfolding refused_plan
refusal-number n d = refl

-- what is shown of accepted plans alone is shown past each test
pub accepted-then : (P : Plan → Type 0) (n : ℕ) (d : Detail) (next : Plan) → (n ≡ 0 → next.number ≡ 0 → P next) → (tested n d next).number ≡ 0 → P (tested n d next)
unfolding tested
accepted-then P n d next h =
    cond_either (λ (p : Plan). p.number ≡ 0 → P p) (ltb 0 n)
    (λ e z. absurd (omega (arith, refusal-number n d, ltb-true 0 n e, z)))
    (λ e. h (omega (arith, ltb-false 0 n e)))
