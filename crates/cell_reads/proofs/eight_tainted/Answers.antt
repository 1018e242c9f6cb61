-- `cell_reads::eight_tainted` meets its contract.
use Rattle.cell_reads.proofs.FourLaws.{eight-tainted}
use Rattle.cell_reads.proofs.eight_tainted.Goals as goal

pub returns : goal.returns
returns c = eight-tainted _ _ _ _ c.four_tainted-low.ensures c.four_tainted-high.ensures
