-- A lane of SHL worked out from the room, where both sources are staged. `proofs/RoomLaws.antt` shows that it is `shl_lane`.
use Rattle.std.specs.Prelude.{ℕ, List, get_or}
use Rattle.cells.specs.Buffer.{Buffer, mark_of}
use Rattle.cells.specs.Writes.{Write, number_writes}
use Rattle.exec_byte.specs.Exec.{exec_size}
use Rattle.shift.specs.Mirror.Total.{total_shift}
use Rattle.plan.specs.Plan.{Plan}
use Rattle.staging.specs.Mirror.Room.{layout_of, first_number, second_number, either_staged}
use Rattle.shl.specs.declared.Shape.{Shape}

-- what a lane asks of the plan
abbrev pub shape_of : Plan → Shape
shape_of p = record { layout = layout_of p.left p.right (exec_size p.control.exec); signed = p.left.signed; size = p.payload.size }

unfoldable pub room_value : List ℕ → Shape → ℕ → ℕ
room_value bytes s lane =
    total_shift s.signed s.layout.first (first_number bytes s.layout lane) (second_number bytes s.layout lane) s.size

-- to the registers from a byte on
unfoldable pub room_writes : Buffer → Shape → ℕ → ℕ → List Write
room_writes room s at lane = number_writes at s.size (mark_of (either_staged room.taint s.layout lane)) (room_value room.bytes s lane)

-- to the register byte that is the lane's
unfoldable pub room_lane : Buffer → Shape → List ℕ → ℕ → List Write
room_lane room s positions lane = room_writes room s (get_or positions lane 0) lane
