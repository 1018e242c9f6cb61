-- Its parts are written one after another.
use Rattle.format_writers.proofs.PageLaws.{writes_as, writes_four}
use Rattle.exec_table.proofs.LineLaws.{reserved-text, unmasked-text, masked-text}
use Rattle.exec_table.proofs.put_meaning.Goals as goal

pub returns-then-exec : goal.returns-then-exec
returns-then-exec c = writes_as c.word.ensures (reserved-text _ c.if-exec.true)

pub returns-then-exec-2 : goal.returns-then-exec-2
returns-then-exec-2 c =
    writes_four c.number.ensures c.word-2.ensures c.number-2.ensures c.word-then-exec-2.ensures
    (rw (c.from-size.ensures, c.from-offset.ensures) (unmasked-text c.args.exec c.if-exec.false c.if-exec-2.true))

pub returns-else-exec-2 : goal.returns-else-exec-2
returns-else-exec-2 c =
    writes_four c.number.ensures c.word-2.ensures c.number-2.ensures c.word-else-exec-2.ensures
    (rw (c.from-size.ensures, c.from-offset.ensures) (masked-text c.args.exec c.if-exec.false c.if-exec-2.false))
