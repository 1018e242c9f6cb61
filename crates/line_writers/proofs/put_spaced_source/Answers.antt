-- Its parts are written one after another.
use Rattle.format_writers.proofs.PageLaws.{writes_two}
use Rattle.line_writers.proofs.TextLaws.{spaced-source-text}
use Rattle.line_writers.proofs.put_spaced_source.Goals as goal

pub returns : goal.returns
returns c = writes_two c.put_source.ensures c.word.ensures (spaced-source-text _)
