-- A lane of a gather worked out from the room, where Offset and Element_offset are staged. `proofs/RoomLaws.antt` shows that it is `gather_lane`.
use Rattle.std.specs.Prelude.{ℕ, ◌+◌, ◌-◌, min, Bool, true, false, cond, List, ◌++◌, slice_index}
use Rattle.cells.specs.Buffer.{Buffer, mark_of}
use Rattle.cells.specs.Element.{element}
use Rattle.cells.specs.Writes.{Write, number_writes, copy_writes}
use Rattle.exec_byte.specs.Exec.{exec_size}
use Rattle.plan.specs.Plan.{Plan}
use Rattle.staging.specs.declared.Layout.{Layout}
use Rattle.staging.specs.Mirror.Room.{layout_of, first_number, second_number, either_staged}
use Rattle.gather.specs.declared.Shape.{Shape}
use Rattle.gather_effect.specs.Gather.{gather_address}

-- what a lane asks of the plan
abbrev pub shape_of : Plan → Shape
shape_of p = record { layout = layout_of p.left p.right (exec_size p.control.exec); start = p.start; length = p.length; block = p.bytes }

unfoldable pub room_address : List ℕ → Layout → ℕ → ℕ
room_address bytes s lane = gather_address (first_number bytes s lane) (second_number bytes s lane)

-- how many bytes of the dword are read: those of the block that lie before the surface's end
unfoldable pub bytes_read : Shape → ℕ → ℕ
bytes_read s address = min (min s.block 4) (s.length - address)

-- a dword of which n bytes are read from a position on: wholly marked if its address is doubtful, else with the marks of the bytes read
unfoldable pub dword_writes : Buffer → ℕ → ℕ → Bool → ℕ → List Write
dword_writes surfaces from n doubtful at =
    cond doubtful
    (number_writes at 4 (mark_of true) (element n surfaces.bytes from))
    (copy_writes surfaces from at n ++ number_writes (at + n) (4 - n) (mark_of false) 0)

-- to the registers from a byte on
unfoldable pub room_writes : Buffer → Buffer → Shape → ℕ → ℕ → List Write
room_writes room surfaces s at lane =
    dword_writes surfaces (s.start + room_address room.bytes s.layout lane) (bytes_read s (room_address room.bytes s.layout lane))
    (either_staged room.taint s.layout lane) at

-- to the register byte that is the lane's
unfoldable pub room_lane : Buffer → Buffer → Shape → List ℕ → ℕ → List Write
room_lane room surfaces s positions lane = room_writes room surfaces s (slice_index positions lane) lane
