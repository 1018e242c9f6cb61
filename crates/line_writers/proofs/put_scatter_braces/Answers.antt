-- Nothing for 0, else two parts.
use Rattle.format_writers.proofs.PageLaws.{writes_as, writes_two}
use Rattle.line_writers.proofs.TextLaws.{no-scatter-braces, scatter-braces}
use Rattle.line_writers.proofs.put_scatter_braces.Goals as goal

pub returns-then-scale-eq0 : goal.returns-then-scale-eq0
returns-then-scale-eq0 c = writes_as c.word.ensures (no-scatter-braces _ c.if-scale-eq0.true)

pub returns : goal.returns
returns c = writes_two c.word-2.ensures c.put_decimal.ensures (rw c.from.ensures (scatter-braces c.args.scale c.if-scale-eq0.false))
