-- The line, and its end.
use Rattle.listing.proofs.StepLaws.{line-written}
use Rattle.listing.proofs.write_instruction.Goals as goal

pub returns : goal.returns
returns c = line-written c.put_line.ensures c.word.ensures
