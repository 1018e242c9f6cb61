-- `cell_reads::number_at` meets its contract: four or eight bytes that are there are read at once.
use Rattle.std.proofs.Common.{arith}
use Rattle.cell_reads.proofs.FourLaws.{sized, element-of}
use Rattle.cell_reads.proofs.number_at.Goals as goal

pub returns-then-room-size : goal.returns-then-room-size
returns-then-room-size c =
    let s = sized _ _ 4 _ _ (rw c.from.ensures at c.has_room-room.ensures) c.if-room-size.true in
    element-of _ _ _ 4 _ s.0 (omega arith) c.four_at.ensures.0

pub returns-then-room-size-2 : goal.returns-then-room-size-2
returns-then-room-size-2 c =
    let s = sized _ _ 8 _ _ (rw c.from.ensures at c.has_room-room.ensures) c.if-room-size-2.true in
    element-of _ _ _ 8 _ s.0 (omega arith) c.eight_at.ensures
