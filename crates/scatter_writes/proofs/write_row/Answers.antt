-- `scatter_writes::write_row` meets its contract.
use Rattle.std.proofs.Common.{refl}
use Rattle.cells.proofs.LentLaws.{leads-begun, lanes-lead, lanes-led}
use Rattle.scatter_writes.proofs.WriteLaws.{row-begun}
use Rattle.scatter_writes.proofs.write_row.Goals as goal

pub loop-lane-init : goal.loop-lane-init
loop-lane-init c = leads-begun _ _ _ (row-begun _ _ _ _ _ _ _)

pub loop-lane-preserved : goal.loop-lane-preserved
loop-lane-preserved c =
    lanes-lead _ _ c.loop-lane.lane _ _ _ _ _ _ c.loop-lane-test.true refl c.write_lane.ensures c.loop-lane.invariant

pub returns : goal.returns
returns c = lanes-led _ _ c.loop-lane.lane _ _ _ _ c.loop-lane-test.false c.loop-lane.invariant
