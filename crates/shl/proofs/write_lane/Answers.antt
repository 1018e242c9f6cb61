-- `shl::write_lane` meets its contract: a lane that is off writes nothing.
use Rattle.cells.proofs.LentLaws.{lane-stays}
use Rattle.shl.proofs.write_lane.Goals as goal

pub returns-else-on : goal.returns-else-on
returns-else-on c = lane-stays _ _ _ c.if-on.false
