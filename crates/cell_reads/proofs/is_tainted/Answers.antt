-- `cell_reads::is_tainted` meets its contract: at each return, what the calls and tests on the way say picks the case of `Buffer`.
use Rattle.std.proofs.Common.{refl}
use Rattle.cells.specs.Buffer.{is_tainted}
use Rattle.cell_reads.proofs.is_tainted.Goals as goal

pub returns : goal.returns
unfolding is_tainted
returns c = refl
