-- `scatter_pairs::lane_breaks` meets its contract: is the lane on, and does its address break the rule.
use Rattle.scatter_pairs.proofs.lane_breaks.Goals as goal

pub returns : goal.returns
returns c = rw (← c.on_at.ensures, ← c.sum_at.ensures, ← c.target_from.ensures, ← c.breaks.ensures)
