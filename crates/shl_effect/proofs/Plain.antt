-- SHL over a register file with marks beside one with the same bytes and no marks: the same bytes, and no marks in the second.
use mathlib.Core.Path.{refl}
use mathlib.Core.List.{List}
use Prim.Native.Nat.{ℕ}
use lib.ListN.{get_or}
use Rattle.cells.specs.Buffer.{Buffer}
use Rattle.cells.proofs.Related.{none, each-alike}
use Rattle.cells.proofs.Plain.{SameBytes, Plainly, PlainWrites, PlainEffects, untainted-mark, number-plain}
use Rattle.shift.specs.Exact.{shifted}
use Rattle.plan.specs.Plan.{Plan}
use Rattle.staging.proofs.Plain.{both-plain, either-plain}
use Rattle.shl_effect.specs.Shl.{shl_value, shl_mark, shl_lane, shl_effect}

lane_plain : (b c : Buffer) → Plainly b c → (p : Plan) (lane : ℕ) → PlainWrites (shl_lane b p lane) (shl_lane c p lane)
unfolding shl_lane shl_mark shl_value
lane_plain b c r p lane =
    number-plain (get_or p.payload.at lane 0) p.payload.size _ _ _ _
    (both-plain b c r (λ v n. shifted p.left.signed p.left.size v n p.payload.size) p.left p.right lane)
    (untainted-mark _ (either-plain b c r _ _ lane))

pub shl_plain : (p : Plan) (lanes : List ℕ) (b c : Buffer) → Plainly b c → PlainEffects (shl_effect p lanes b) (shl_effect p lanes c)
unfolding shl_effect
shl_plain p lanes b c r = record { number = refl; detail = refl; registers = each-alike SameBytes _ _ lanes (lane_plain b c r p); memory = none }
