-- What goes out of the buffer is written.
use Rattle.std.proofs.Common.{ap, not}
use Rattle.listing.proofs.WholeLaws.{far_none, far-more, far-done}
use Rattle.listing.proofs.list_block.Goals as goal

pub loop-turn-init : goal.loop-turn-init
loop-turn-init g c = far_none _ _ _ _ _ _

pub loop-turn-preserved : goal.loop-turn-preserved
loop-turn-preserved g c = far-more _ _ _ _ _ _ _ _ _ _ _ _ c.loop-turn.invariant c.work-next.ensures

pub returns-then-not-has_work : goal.returns-then-not-has_work
returns-then-not-has_work g c = far-done _ _ _ _ _ _ _ _ _ _ _ _ c.loop-turn.invariant c.work-next.ensures _ c.has_work.ensures (ap not c.if-not-has_work.true)
