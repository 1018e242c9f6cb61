-- SVM SCATTER4_SCALED that is refused, by 10, 11 or 12, writes nothing; one that is done writes memory only.
use mathlib.Core.Path.{◌≡◌, refl, ap, ◌∙◌}
use mathlib.Core.Bool.{Bool, true, false}
use mathlib.Core.List.{List, []}
use Prim.Native.Nat.{ℕ}
use Rattle.refusal.specs.declared.Detail.{Detail}
use Rattle.cells.specs.Buffer.{Buffer}
use Rattle.cells.specs.Effect.{Effect, unless}
use Rattle.cells.proofs.EffectLaws.{unless-refused, unless-passed}
use Rattle.cells.proofs.RefusalLaws.{WritesOnlyWhenDone, done-writes, unless-writes}
use Rattle.plan.specs.Plan.{Plan}
use Rattle.scatter_effect.specs.Scatter.{Window, scatter_effect}

pub scatter-writes : (w : Window) (p : Plan) (lanes : List ℕ) (b : Buffer) → WritesOnlyWhenDone (scatter_effect w p lanes b)
unfolding scatter_effect
scatter-writes w p lanes b = unless-writes _ 10 _ _ (unless-writes _ 11 _ _ (unless-writes _ 12 _ _ (done-writes _ refl)))

unless-spares : (q : Bool) (n : ℕ) (d : Detail) (e : Effect) → e.registers ≡ [] → (unless q n d e).registers ≡ []
unless-spares true n d e h = ap (λ (x : Effect). x.registers) (unless-refused true n d e refl)
unless-spares false n d e h = ap (λ (x : Effect). x.registers) (unless-passed false n d e refl) ∙ h

pub scatter-spares-registers : (w : Window) (p : Plan) (lanes : List ℕ) (b : Buffer) → (scatter_effect w p lanes b).registers ≡ []
unfolding scatter_effect
scatter-spares-registers w p lanes b = unless-spares _ 10 _ _ (unless-spares _ 11 _ _ (unless-spares _ 12 _ _ refl))
