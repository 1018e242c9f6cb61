-- `scatter_writes::write_lane` meets its contract: a lane that is off writes nothing.
use Rattle.std.proofs.Common.{sym, ◌∙◌}
use Rattle.cells.proofs.LentLaws.{lane-stays}
use Rattle.scatter_writes.proofs.write_lane.Goals as goal

pub returns-else-on_at : goal.returns-else-on_at
returns-else-on_at c = lane-stays _ _ _ (sym c.on_at.ensures ∙ c.if-on_at.false)
