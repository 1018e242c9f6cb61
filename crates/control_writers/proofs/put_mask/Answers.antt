-- Its parts are written one after another.
use Rattle.format_writers.proofs.PageLaws.{writes_three}
use Rattle.control_writers.proofs.TextLaws.{mask-text}
use Rattle.control_writers.proofs.put_mask.Goals as goal

pub returns : goal.returns
returns c = writes_three c.word.ensures c.number.ensures c.word-2.ensures (mask-text _)
