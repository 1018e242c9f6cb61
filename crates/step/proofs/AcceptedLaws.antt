-- A plan's number: a refused plan has the effect of its refusal, an accepted one that of what follows.
use Prim.Native.Nat.{◌<◌}
use mathlib.Core.Path.{◌≡◌, ap}
use mathlib.Core.Bool.{not}
use native.Mathlib.Omega.{arith}
use lib.Dec.{eqb}
use borrow.Author.Tests.{eq-eqb, ne_eqb}
use Rattle.cells.specs.Effect.{Effect, refused, unless}
use Rattle.cells.proofs.EffectLaws.{unless-refused, unless-passed}
use Rattle.plan.specs.Plan.{Plan}

module _ (p : Plan) (x : Effect) where
  pub plan-refuses : 0 < p.number → unless (not (eqb p.number 0)) p.number p.detail x ≡ refused p.number p.detail
  plan-refuses h = unless-refused (not (eqb p.number 0)) p.number p.detail x (ap not (ne_eqb p.number 0 (omega (arith, h))))

  pub plan-passes : p.number ≡ 0 → unless (not (eqb p.number 0)) p.number p.detail x ≡ x
  plan-passes zero = unless-passed (not (eqb p.number 0)) p.number p.detail x (ap not (eq-eqb p.number 0 zero))
