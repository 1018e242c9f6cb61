-- What goes out of the buffer is written.
use Rattle.assembler.proofs.WholeLaws.{far_none, far-more, far-done}
use Rattle.assembler.proofs.assemble_block.Goals as goal

pub loop-turn-init : goal.loop-turn-init
loop-turn-init g c = far_none _ _ _ _ _

pub loop-turn-preserved : goal.loop-turn-preserved
loop-turn-preserved g c = far-more _ _ _ _ _ _ _ _ _ _ c.loop-turn.invariant c.work-next.ensures

pub returns-then-block-next : goal.returns-then-block-next
returns-then-block-next g c = far-done _ _ _ _ _ _ _ _ _ _ c.loop-turn.invariant c.work-next.ensures c.if-block-next.true
