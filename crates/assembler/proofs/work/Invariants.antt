use Rattle.assembler.specs.Mirror.Parts.{Goes}
use Rattle.assembler.proofs.work.Given as goal

abbrev pub invariant-loop-turn : goal.invariant-loop-turn
invariant-loop-turn l = Goes l.block l.fn.line l.fn.out l.fn.from l.line l.out l.s
