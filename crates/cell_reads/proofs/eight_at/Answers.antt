-- `cell_reads::eight_at` meets its contract: a dword, and the next.
use Rattle.cell_reads.proofs.FourLaws.{eight-read}
use Rattle.cell_reads.proofs.eight_at.Goals as goal

pub returns : goal.returns
returns c = eight-read _ _ _ _ c.four_at-low.ensures.0 c.four_at-high.ensures.0
