-- `gather::gather_lanes` meets its contract.
use Rattle.std.proofs.Common.{ap, refl, sym, ◌∙◌, true, false, []}
use Rattle.cells.specs.Over.{each}
use Rattle.cells.proofs.AmongLaws.{among-begun}
use Rattle.cells.proofs.LentLaws.{leads-begun, lanes-lead, lanes-led, lane-stays}
use Rattle.gather.specs.Mirror.FromRoom.{room_lane}
use Rattle.gather.proofs.gather_lanes.Goals as goal
use Rattle.gather.proofs.gather_lanes.Goals.{then-on, else-on}

pub loop-lane-init : goal.loop-lane-init
loop-lane-init c = leads-begun _ _ _ (ap (each _) (among-begun _ _))

pub loop-lane-preserved : goal.loop-lane-preserved
unfolding room_lane
loop-lane-preserved c =
    elim c.if-on.branch [
      | then-on w ↦ lanes-lead _ _ c.loop-lane.lane _ true _ _ _ _ c.loop-lane-test.true (sym w.if-on.true ∙ rw c.from-index.ensures at c.on.ensures) (rw w.registers-is (rw c.from-index.ensures at w.gather_lane.ensures)) c.loop-lane.invariant
      | else-on w ↦ lanes-lead _ _ c.loop-lane.lane _ false _ _ _ _ c.loop-lane-test.true (sym w.if-on.false ∙ rw c.from-index.ensures at c.on.ensures) (rw w.registers-is (lane-stays false [] _ refl)) c.loop-lane.invariant
    ]

pub returns : goal.returns
returns c = lanes-led _ _ c.loop-lane.lane _ _ _ _ c.loop-lane-test.false c.loop-lane.invariant
