-- `cell_writes::copy_has_room` meets its contract.
use Rattle.cell_writes.specs.Mirror.CopyRoom.{copy_room}
use Rattle.cell_writes.proofs.copy_has_room.Goals as goal

pub returns : goal.returns
unfolding copy_room
returns c = rw (← c.has_room.ensures, ← c.has_room-2.ensures, ← c.has_room-3.ensures, ← c.has_room-4.ensures)
