-- The enabled lanes, in the words of a loop that asks of each lane below the size whether it is on.
use Prim.Native.Nat.{ℕ}
use mathlib.Core.Path.{◌≡◌, refl, ap, fun_ext}
use mathlib.Core.Bool.{Bool}
use Rattle.cells.specs.Over.{among}
use Rattle.exec_byte.specs.Exec.{exec_size}
use Rattle.channels.specs.Lanes.{lane_on}
use Rattle.channels.specs.Mirror.Prepared.{lanes_of, is_on}
use Rattle.channels.proofs.LaneLaws.{on-lanes}
use Rattle.plan.specs.Plan.{Plan}
use Rattle.staging.specs.Lanes.{lanes_on}

pub lanes-on-are : (mask : ℕ) (p : Plan) → lanes_on mask p ≡ among (lane_on p.control.exec p.control.pred mask p.bits) (exec_size p.control.exec)
unfolding lanes_on
lanes-on-are mask p = refl

-- and of one that asks the prepared lanes
pub prepared-lanes-are : (mask : ℕ) (p : Plan) → among (is_on (lanes_of p.control.exec p.control.pred mask p.bits)) (exec_size p.control.exec) ≡ lanes_on mask p
unfolding lanes_on
prepared-lanes-are mask p = ap (λ (on : ℕ → Bool). among on (exec_size p.control.exec)) (fun_ext (on-lanes p.control.exec p.control.pred mask p.bits))
