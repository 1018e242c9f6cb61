-- Where the offsets fit, the room holds them as the registers had them: what a lane writes by the room is what the definition says.
use Rattle.std.proofs.Common.{◌≡◌, ℕ, ◌<◌, ◌≤◌, true, get_or, arith}
use Rattle.little_endian.specs.LittleEndian.{Bytes}
use Rattle.cells.specs.Buffer.{Buffer}
use Rattle.exec_byte.specs.Exec.{exec_size}
use Rattle.plan.specs.Plan.{Plan}
use Rattle.staging.specs.Sources.{element_value, either_tainted}
use Rattle.staging.specs.Mirror.Room.{layout_of, elements_fit, both_staged, either_staged}
use Rattle.cells.proofs.BoolLaws.{both_true}
use Rattle.staging.proofs.FitLaws.{fit-lanes}
use Rattle.staging.proofs.RoomLaws.{both_first, both-second, both-either}
use Rattle.gather.specs.declared.Shape.{Shape}
use Rattle.gather_effect.specs.Gather.{gather_address, gather_lane}
use Rattle.gather.specs.Mirror.Guarded.{gather_fits}
use Rattle.gather.specs.Mirror.FromRoom.{shape_of, room_address, bytes_read, room_writes, room_lane}
use Rattle.gather.proofs.CountLaws.{count_small, read_below}
use Rattle.gather.proofs.DwordLaws.{dword-is}

module _ (p : Plan) (fit : gather_fits p ≡ true) where
  abbrev lanes : ℕ
  lanes = exec_size p.control.exec

  parts : (elements_fit 4 p.left lanes ≡ true) × (elements_fit 4 p.right lanes ≡ true)
  unfolding gather_fits
  parts = both_true _ _ fit

  pub few-told : (s : Shape) → s ≡ shape_of p → s.layout.lanes ≤ 32
  few-told s told = rw told (fit-lanes 4 p.left lanes parts.0)

  module _ (registers surfaces : Buffer) (bytes : Bytes surfaces.bytes) (lane : ℕ) (h : lane < lanes) where
    abbrev room : Buffer
    room = both_staged registers p.left p.right lanes

    address-stands : room_address room.bytes (layout_of p.left p.right lanes) lane ≡ gather_address (element_value registers.bytes p.left lane) (element_value registers.bytes p.right lane)
    unfolding room_address
    address-stands =
        rw (
          both_first registers p.left p.right 4 lanes (omega arith) parts.0 parts.1 lane h,
          both-second registers p.left p.right 4 lanes (omega arith) parts.0 parts.1 lane h,
        )

    doubt-stands : either_staged room.taint (layout_of p.left p.right lanes) lane ≡ either_tainted registers.taint p.left p.right lane
    doubt-stands = both-either registers p.left p.right 4 lanes (omega arith) parts.0 parts.1 lane h

    pub room-lane-is : room_lane room surfaces (shape_of p) p.payload.at lane ≡ gather_lane registers surfaces p lane
    unfolding room_lane room_writes gather_lane
    room-lane-is =
        let address = gather_address (element_value registers.bytes p.left lane) (element_value registers.bytes p.right lane) in
        rw (address-stands, doubt-stands)
        (dword-is surfaces p address (get_or p.payload.at lane 0) (bytes_read (shape_of p) address) (count_small (shape_of p) address) (read_below p address) bytes (either_tainted registers.taint p.left p.right lane))
