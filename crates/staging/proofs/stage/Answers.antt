-- `staging::stage` meets its contract.
use Rattle.std.proofs.Common.{refl, ap, true}
use Rattle.cells.specs.Over.{each}
use Rattle.cells.proofs.AmongLaws.{among-begun}
use Rattle.cells.proofs.LentLaws.{leads-begun, lanes-lead, lanes-led}
use Rattle.staging.specs.Mirror.Room.{staged}
use Rattle.staging.proofs.stage.Goals as goal

pub loop-lane-init : goal.loop-lane-init
loop-lane-init c = leads-begun _ _ _ (ap (each _) (among-begun (λ _. true) _))

pub loop-lane-preserved : goal.loop-lane-preserved
loop-lane-preserved c =
    lanes-lead _ _ c.loop-lane.lane _ true _ _ _ _ c.loop-lane-test.true refl c.stage_lane.ensures c.loop-lane.invariant

pub returns : goal.returns
unfolding staged
returns c = lanes-led _ _ c.loop-lane.lane _ _ _ _ c.loop-lane-test.false c.loop-lane.invariant
