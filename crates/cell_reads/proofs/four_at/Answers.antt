-- `cell_reads::four_at` meets its contract.
use Rattle.std.proofs.Common.{arith}
use Rattle.cell_reads.proofs.FourLaws.{four-read}
use Rattle.cell_reads.proofs.four_at.Goals as goal

pub returns : goal.returns
returns c = (four-read _ _ _ _ c.from_le_bytes.ensures c.from.ensures, omega arith)
