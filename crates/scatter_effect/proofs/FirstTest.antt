-- A scatter's number is that of the first of its three tests that fails, each over all enabled lanes or pairs.
use mathlib.Core.Path.{◌≡◌, refl, ap}
use mathlib.Core.Bool.{Bool, true, false, cond}
use mathlib.Core.List.{List}
use Prim.Native.Nat.{ℕ}
use Rattle.refusal.specs.declared.Detail.{Detail}
use Rattle.refusal.specs.Details.{is_some}
use Rattle.cells.specs.Buffer.{Buffer}
use Rattle.cells.specs.Over.{some}
use Rattle.cells.specs.Effect.{Effect, unless}
use Rattle.cells.proofs.EffectLaws.{unless-refused, unless-passed}
use Rattle.cells.proofs.FirstLaws.{found_some}
use Rattle.plan.specs.Plan.{Plan}
use Rattle.staging.specs.Sources.{either_tainted}
use Rattle.scatter_effect.specs.Scatter.{Window, channels_on, target, misaligned, outside, first_offending, scatter_effect}

unless-number : (q : Bool) (n : ℕ) (d : Detail) (e : Effect) → (unless q n d e).number ≡ cond q n e.number
unless-number true n d e = ap (λ (x : Effect). x.number) (unless-refused true n d e refl)
unless-number false n d e = ap (λ (x : Effect). x.number) (unless-passed false n d e refl)

-- a search finds a pair exactly if one offends
pub offending-some : (fails : ℕ → Bool) (p : Plan) (lanes bytes : List ℕ) → is_some (first_offending fails p lanes bytes) ≡ some (λ c. some (λ i. fails (target bytes p c i)) lanes) (channels_on p)
unfolding first_offending
offending-some fails p lanes bytes = found_some (λ c i. fails (target bytes p c i)) (channels_on p) lanes

pub scatter-number : (w : Window) (p : Plan) (lanes : List ℕ) (b : Buffer)
    → (scatter_effect w p lanes b).number
    ≡ cond (some (λ i. either_tainted b.taint p.left p.right i) lanes) 10
    (cond (some (λ c. some (λ i. misaligned (target b.bytes p c i)) lanes) (channels_on p)) 11
    (cond (some (λ c. some (λ i. outside w (target b.bytes p c i)) lanes) (channels_on p)) 12 0))
unfolding scatter_effect
scatter-number w p lanes b = rw (unless-number, unless-number, unless-number, offending-some, offending-some)
