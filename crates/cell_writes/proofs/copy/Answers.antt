-- `cell_writes::copy` meets its contract: bytes that are there are copied four at once.
use Rattle.std.proofs.Common.{sym, ◌∙◌, eqb-true}
use Rattle.cells.proofs.BoolLaws.{both_true}
use Rattle.cell_writes.proofs.FourLaws.{copy-room}
use Rattle.cell_writes.proofs.copy.Goals as goal

pub copy_fours-requires : goal.copy_fours-requires
copy_fours-requires c =
    let t = both_true _ _ c.if-room-count.true in
    (copy-room _ _ _ _ _ (sym c.copy_has_room-room.ensures ∙ t.0), eqb-true _ _ t.1)
