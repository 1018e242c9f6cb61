-- `cell_writes::copy_dword` meets its contract: four bytes that are there are copied at once.
use Rattle.std.proofs.Common.{sym, ◌∙◌}
use Rattle.cell_writes.proofs.FourLaws.{copy-room}
use Rattle.cell_writes.proofs.copy_dword.Goals as goal

pub copy_four-requires : goal.copy_four-requires
copy_four-requires c = copy-room _ _ _ _ 4 (sym c.copy_has_room.ensures ∙ c.if-copy_has_room.true)
