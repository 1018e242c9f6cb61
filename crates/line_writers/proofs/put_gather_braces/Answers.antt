-- Nothing where both are 0, else three parts.
use Rattle.format_writers.proofs.PageLaws.{writes_as, writes_three}
use Rattle.line_writers.proofs.TextLaws.{no-gather-braces, gather-braces}
use Rattle.line_writers.proofs.put_gather_braces.Goals as goal

pub returns-then-carries_nothing : goal.returns-then-carries_nothing
returns-then-carries_nothing c =
    writes_as c.word.ensures (no-gather-braces _ _ _ (rw (c.from-first.ensures, c.from-second.ensures) at c.carries_nothing.ensures) c.if-carries_nothing.true)

pub returns : goal.returns
returns c =
    writes_three c.word-2.ensures c.put_decimal.ensures c.put_decimal-2.ensures
    (rw (c.from-first.ensures, c.from-second.ensures) (gather-braces c.args.size c.args.scale _ (rw (c.from-first.ensures, c.from-second.ensures) at c.carries_nothing.ensures) c.if-carries_nothing.false))
