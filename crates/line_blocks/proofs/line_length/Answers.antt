-- The place that the search finds, or the length.
use Rattle.line_blocks.proofs.PartLaws.{found}
use Rattle.line_blocks.proofs.line_length.Goals as goal

pub returns : goal.returns
returns c = rw (c.unwrap_or.ensures, c.first_end.ensures) (found c.args.text.now)
