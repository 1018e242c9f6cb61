-- `cell_reads::four_tainted` meets its contract.
use Rattle.cell_reads.proofs.FourLaws.{four-tainted}
use Rattle.cell_reads.proofs.four_tainted.Goals as goal

pub returns : goal.returns
returns c = four-tainted _ _ _ _ _ _ c.is_tainted-first.ensures c.is_tainted-second.ensures c.is_tainted-third.ensures c.is_tainted-fourth.ensures
