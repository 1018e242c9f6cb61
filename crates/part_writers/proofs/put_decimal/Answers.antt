-- Its parts are written one after another.
use Rattle.format_writers.proofs.PageLaws.{writes_then}
use Rattle.part_writers.proofs.put_decimal.Goals as goal

pub returns : goal.returns
returns c = writes_then c.number.ensures c.word.ensures
