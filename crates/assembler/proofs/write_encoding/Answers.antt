-- The digits, and the line's end.
use Rattle.assembler.proofs.WritingLaws.{line-written}
use Rattle.assembler.proofs.write_encoding.Goals as goal

pub returns : goal.returns
returns c = line-written c.write_bytes.ensures c.word.ensures
