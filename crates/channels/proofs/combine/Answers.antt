-- `channels::combine` meets its contract: some bit 1 is any, no bit 0 is all.
use Rattle.channels.specs.Mirror.Prepared.{combined_predicate}
use Rattle.channels.proofs.BelowLaws.{some-true, none-false}
use Rattle.channels.proofs.combine.Goals as goal

pub returns-in-1 : goal.returns-in-1
unfolding combined_predicate
returns-in-1 c =
    rw (c.in-1.is, ← some-true, ← c.some_bit.ensures, ← c.invert.ensures)

pub returns-in-2 : goal.returns-in-2
unfolding combined_predicate
returns-in-2 c =
    rw (c.in-2.is, ← none-false, ← c.some_bit-in-2.ensures, ← c.invert-in-2.ensures)
