-- Its parts are written one after another.
use Rattle.format_writers.proofs.PageLaws.{writes_three}
use Rattle.part_writers.proofs.TextLaws.{hexadecimal-text}
use Rattle.part_writers.proofs.put_hexadecimal.Goals as goal

pub returns : goal.returns
returns c = writes_three c.word.ensures c.number.ensures c.word-2.ensures (hexadecimal-text _)
