-- `shl::write_lanes` meets its contract.
use Rattle.std.proofs.Common.{ap}
use Rattle.cells.specs.Over.{each}
use Rattle.cells.proofs.AmongLaws.{among-begun}
use Rattle.cells.proofs.LentLaws.{leads-begun, lanes-lead, lanes-led}
use Rattle.shl.specs.Mirror.FromRoom.{room_lane}
use Rattle.shl.proofs.write_lanes.Goals as goal

pub loop-lane-init : goal.loop-lane-init
loop-lane-init c = leads-begun _ _ _ (ap (each _) (among-begun _ _))

pub loop-lane-preserved : goal.loop-lane-preserved
unfolding room_lane
loop-lane-preserved c =
    lanes-lead _ _ c.loop-lane.lane _ _ _ _ _ _ c.loop-lane-test.true (rw c.from-index.ensures at c.on.ensures) (rw c.from-index.ensures at c.write_lane.ensures) c.loop-lane.invariant

pub returns : goal.returns
returns c = lanes-led _ _ c.loop-lane.lane _ _ _ _ c.loop-lane-test.false c.loop-lane.invariant
