-- `scatter_pairs::breaks` meets its contract: one case for each rule.
use Rattle.scatter_effect.specs.Scatter.{misaligned}
use Rattle.scatter_pairs.specs.Mirror.Rules.{breaks}
use Rattle.scatter_pairs.proofs.breaks.Goals as goal

pub returns-in-Aligned : goal.returns-in-Aligned
unfolding breaks misaligned
returns-in-Aligned c = rw c.in-Aligned.is

pub returns-in-Inside : goal.returns-in-Inside
unfolding breaks
returns-in-Inside c = rw (c.in-Inside.is, ← c.outside.ensures)
