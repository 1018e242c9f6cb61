-- Its parts are written one after another.
use Rattle.format_writers.proofs.PageLaws.{writes_four}
use Rattle.line_writers.proofs.TextLaws.{general-text}
use Rattle.line_writers.proofs.put_general.Goals as goal

pub returns : goal.returns
returns c =
    writes_four c.word.ensures c.put_decimal.ensures c.put_decimal-2.ensures c.put_decimal-3.ensures
    (rw (c.from-index.ensures, c.from-row.ensures, c.from-column.ensures) (general-text c.args.g))
