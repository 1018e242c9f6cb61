-- Its parts are written one after another.
use Rattle.format_writers.proofs.PageLaws.{writes_three}
use Rattle.part_writers.proofs.TextLaws.{raw-text}
use Rattle.part_writers.proofs.put_raw.Goals as goal

pub returns : goal.returns
returns c = writes_three c.word.ensures c.put_decimal.ensures c.number.ensures (raw-text _ _ _ c.from-index.ensures c.from-offset.ensures)
