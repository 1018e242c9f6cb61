-- Which table it is depends on the number alone.
use Rattle.format_writers.proofs.PageLaws.{writes_as}
use Rattle.part_writers.proofs.TextLaws.{narrow_type, wide_type}
use Rattle.part_writers.proofs.put_type.Goals as goal

pub returns-then-n-lt4294967296 : goal.returns-then-n-lt4294967296
returns-then-n-lt4294967296 c = writes_as c.word.ensures (narrow_type _ _ c.if-n-lt4294967296.true)

pub returns-else-n-lt4294967296 : goal.returns-else-n-lt4294967296
returns-else-n-lt4294967296 c = writes_as c.word-else-n-lt4294967296.ensures (wide_type _ _ c.if-n-lt4294967296.false)
