-- What was written, with what is to come, is what is to be put out.
use Rattle.assembler.proofs.WholeLaws.{SoFar}
use Rattle.assembler.proofs.assemble_block.Given as goal

abbrev pub invariant-loop-turn : goal.invariant-loop-turn
invariant-loop-turn g l = SoFar l.block l.fn.line l.fn.begun.used l.fn.begun.long l.line l.out l.s
