-- SHL over two register files with equal marks and equal untainted bytes: alike effects.
use mathlib.Core.Path.{refl}
use mathlib.Core.List.{List}
use Prim.Native.Nat.{ℕ}
use lib.ListN.{get_or}
use Rattle.cells.specs.Buffer.{Buffer}
use Rattle.cells.proofs.Related.{none, each-alike}
use Rattle.cells.proofs.Untainted.{SameUntainted, Agreeing, AlikeWrites, AlikeEffects, number-alike}
use Rattle.shift.specs.Exact.{shifted}
use Rattle.plan.specs.Plan.{Plan}
use Rattle.staging.proofs.Untainted.{both-same, either_same}
use Rattle.shl_effect.specs.Shl.{shl_value, shl_mark, shl_lane, shl_effect}

lane-alike : (b c : Buffer) → Agreeing b c → (p : Plan) (lane : ℕ) → AlikeWrites (shl_lane b p lane) (shl_lane c p lane)
unfolding shl_lane shl_mark shl_value
lane-alike b c r p lane =
    number-alike _ _ (get_or p.payload.at lane 0) p.payload.size _ _ (either_same b c r p.left p.right lane)
    (both-same b c r (λ v n. shifted p.left.signed p.left.size v n p.payload.size) p.left p.right lane)

pub shl-alike : (p : Plan) (lanes : List ℕ) (b c : Buffer) → Agreeing b c → AlikeEffects (shl_effect p lanes b) (shl_effect p lanes c)
unfolding shl_effect
shl-alike p lanes b c r = record { number = refl; detail = refl; registers = each-alike SameUntainted _ _ lanes (lane-alike b c r p); memory = none }
