-- Its parts are written one after another.
use Rattle.format_writers.proofs.PageLaws.{writes_three}
use Rattle.line_writers.proofs.TextLaws.{source-region-text}
use Rattle.line_writers.proofs.put_source_region.Goals as goal

pub returns : goal.returns
returns c = writes_three c.word.ensures c.word-2.ensures c.word-3.ensures (rw c.from-word.ensures (source-region-text c.args.region))
