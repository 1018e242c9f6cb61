use Rattle.listing.specs.Mirror.Parts.{Goes}
use Rattle.listing.proofs.work.Given as goal

abbrev pub invariant-loop-turn : goal.invariant-loop-turn
invariant-loop-turn l = Goes l.block l.fn.line l.fn.kernel l.fn.out l.fn.from l.line l.kernel l.out l.s
