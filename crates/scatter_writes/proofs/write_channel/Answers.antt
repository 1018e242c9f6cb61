-- `scatter_writes::write_channel` meets its contract: a channel that is not enabled writes nothing.
use Rattle.std.proofs.Common.{sym, ◌∙◌}
use Rattle.cells.proofs.LentLaws.{lane-stays}
use Rattle.scatter_writes.proofs.write_channel.Goals as goal

pub returns-else-has_channel : goal.returns-else-has_channel
returns-else-has_channel c = lane-stays _ _ _ (sym c.has_channel.ensures ∙ c.if-has_channel.false)
