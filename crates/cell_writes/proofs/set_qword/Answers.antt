-- `cell_writes::set_qword` meets its contract: a dword, and the next.
use Rattle.std.proofs.Common.{arith}
use Rattle.cells.proofs.LentLaws.{becomes-more, bytes-stay, taint-stay}
use Rattle.cell_writes.proofs.FourLaws.{numbers-split}
use Rattle.cell_writes.proofs.set_qword.Goals as goal

pub returns : goal.returns
returns c = becomes-more _ _ _ _ _ _ (numbers-split _ _ _) c.set_dword.ensures c.set_dword-2.ensures

pub set_dword-requires-2 : goal.set_dword-requires-2
set_dword-requires-2 c =
    (omega (arith, c.requires.0, bytes-stay _ _ _ c.set_dword.ensures), omega (arith, c.requires.1, taint-stay _ _ _ c.set_dword.ensures))
