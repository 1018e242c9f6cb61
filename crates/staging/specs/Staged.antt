-- What the room of an instruction's sources holds.
use Rattle.cells.specs.Buffer.{Buffer, buffer}
use Rattle.staging.specs.declared.Room.{Room}

abbrev pub in_room : Room → Buffer
in_room r = buffer r.bytes r.taint
