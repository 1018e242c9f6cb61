-- Its parts are written one after another.
use Rattle.assembler.proofs.WritingLaws.{column-written}
use Rattle.assembler.proofs.write_column.Goals as goal

pub returns : goal.returns
returns c = column-written _ c.word.ensures c.number.ensures c.word-2.ensures
