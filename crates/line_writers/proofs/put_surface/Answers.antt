-- Its parts are written one after another.
use Rattle.format_writers.proofs.PageLaws.{writes_two}
use Rattle.line_writers.proofs.TextLaws.{surface-text}
use Rattle.line_writers.proofs.put_surface.Goals as goal

pub returns : goal.returns
returns c = writes_two c.word.ensures c.put_decimal.ensures (rw c.from.ensures (surface-text c.args.number))
