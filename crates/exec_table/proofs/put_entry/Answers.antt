-- Its parts are written one after another.
use Rattle.format_writers.proofs.PageLaws.{writes_three}
use Rattle.exec_table.proofs.LineLaws.{entry-text}
use Rattle.exec_table.proofs.put_entry.Goals as goal

pub returns : goal.returns
returns c = writes_three c.byte.ensures c.word.ensures c.put_meaning.ensures (entry-text _ _ c.split.ensures)
