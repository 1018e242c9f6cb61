-- Its parts are written one after another.
use Rattle.format_writers.proofs.PageLaws.{writes_then}
use Rattle.line_writers.proofs.put_opening.Goals as goal

pub returns : goal.returns
returns c = writes_then c.put_predicate.ensures c.word.ensures
