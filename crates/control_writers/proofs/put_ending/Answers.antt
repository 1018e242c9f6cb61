-- Which table it is depends on the opening and the id.
use Rattle.format_writers.proofs.PageLaws.{writes_as}
use Rattle.control_writers.proofs.TextLaws.{group-ending, any-ending}
use Rattle.control_writers.proofs.put_ending.Goals as goal

pub returns-then-is_p0 : goal.returns-then-is_p0
returns-then-is_p0 c = writes_as c.word.ensures (group-ending _ _ _ _ c.is_p0.ensures c.if-is_p0.true)

pub returns-else-is_p0 : goal.returns-else-is_p0
returns-else-is_p0 c = writes_as c.word-else-is_p0.ensures (any-ending _ _ _ _ c.is_p0.ensures c.if-is_p0.false)
