-- A scatter in the order of its definition: "10 over all lanes; 11 over all; 12 over all", then the writes, "c outer, i inner".
use Prim.Native.Nat.{ℕ}
use mathlib.Core.Path.{◌≡◌, refl}
use mathlib.Core.Bool.{Bool}
use mathlib.Core.List.{List, []}
use Rattle.refusal.specs.declared.Detail.{Detail}
use Rattle.refusal.specs.declared.Detail.TheVariants as detail
use Rattle.cells.specs.Buffer.{Buffer}
use Rattle.cells.specs.Writes.{Write}
use Rattle.cells.specs.Over.{each, some}
use Rattle.cells.specs.Effect.{Effect, unless, unless_found, writing}
use Rattle.plan.specs.Plan.{Plan}
use Rattle.staging.specs.Sources.{either_tainted}
use Rattle.scatter_effect.specs.Scatter.{Window, channels_on, misaligned, outside, scatter_pair, first_offending, scatter_effect}

-- the tests' answers, and the writes
abbrev pub tested : Bool → Detail → Detail → List Write → Effect
tested tainted odd out writes = unless tainted 10 detail.None (unless_found 11 odd (unless_found 12 out (writing [] writes)))

pub scatter-in-order : (w : Window) (p : Plan) (lanes : List ℕ) (registers : Buffer)
    → scatter_effect w p lanes registers
    ≡ tested (some (λ i. either_tainted registers.taint p.left p.right i) lanes)
    (first_offending misaligned p lanes registers.bytes)
    (first_offending (outside w) p lanes registers.bytes)
    (each (λ c. each (λ i. scatter_pair w registers p c i) lanes) (channels_on p))
unfolding scatter_effect
scatter-in-order w p lanes registers = refl
