-- A lane worked out from the room, where both sources are staged and fit, is the lane worked out from the registers.
use Prim.Native.Nat.{ℕ, ◌≤◌, ◌<◌}
use mathlib.Core.Path.{◌≡◌, ap, ap₂}
use mathlib.Core.Bool.{Bool, true, ◌&&◌}
use native.Mathlib.Omega.{arith}
use lib.Dec.{leb}
use lib.ListN.{get_or}
use borrow.Author.Tests.{leb-true}
use Rattle.cells.specs.Buffer.{Buffer, mark_of}
use Rattle.cells.specs.Writes.{number_writes}
use Rattle.exec_byte.specs.Exec.{exec_size, exec_of}
use Rattle.exec_byte.specs.declared.Exec.{Exec}
use Rattle.shift.proofs.ShiftLaws.{total-is}
use Rattle.plan.specs.Plan.{Plan}
use Rattle.staging.specs.Sources.{element_value}
use Rattle.staging.specs.Mirror.Room.{layout_of, elements_fit, both_staged, either_staged}
use Rattle.staging.proofs.FitLaws.{all_three, fit-lanes, fit-size}
use Rattle.staging.proofs.RoomLaws.{both_first, both-second, both-either}
use Rattle.shl.specs.declared.Shape.{Shape}
use Rattle.shl_effect.specs.Shl.{shl_value, shl_mark, shl_lane}
use Rattle.shl.specs.Mirror.FromRoom.{shape_of, room_value, room_writes, room_lane}
use Rattle.shl.specs.Mirror.Guarded.{shl_fits}

-- the test as code asks it
pub fits_told : (p : Plan) (exec : Exec) (l r : Bool) → exec ≡ exec_of p.control.exec → l ≡ elements_fit 4 p.left exec.size → r ≡ elements_fit 4 p.right exec.size → (l && r && leb p.payload.size 4) ≡ shl_fits p
unfolding shl_fits
fits_told p exec l r e f g = rw (f, g, e)

module _ (p : Plan) (fit : shl_fits p ≡ true) where
  parts : (elements_fit 4 p.left (exec_size p.control.exec) ≡ true) × (elements_fit 4 p.right (exec_size p.control.exec) ≡ true) × (leb p.payload.size 4 ≡ true)
  unfolding shl_fits
  parts = all_three _ _ _ fit

  few-lanes : exec_size p.control.exec ≤ 32
  few-lanes = fit-lanes 4 p.left (exec_size p.control.exec) parts.0

  pub few-told : (s : Shape) → s ≡ shape_of p → s.layout.lanes ≤ 32
  few-told s told = rw told few-lanes

  module _ (registers : Buffer) (lane : ℕ) (h : lane < exec_size p.control.exec) where
    abbrev lanes : ℕ
    lanes = exec_size p.control.exec

    abbrev room : Buffer
    room = both_staged registers p.left p.right lanes

    value-is : room_value room.bytes (shape_of p) lane ≡ shl_value registers.bytes p lane
    unfolding room_value shl_value
    value-is =
        let l = fit-size 4 p.left lanes parts.0 in
        let d = leb-true p.payload.size 4 parts.2 in
        rw (both_first registers p.left p.right 4 lanes (omega arith) parts.0 parts.1 lane h, both-second registers p.left p.right 4 lanes (omega arith) parts.0 parts.1 lane h)
        (total-is p.left.signed p.left.size (element_value registers.bytes p.left lane) (element_value registers.bytes p.right lane) p.payload.size l d)

    mark-is : mark_of (either_staged room.taint (layout_of p.left p.right lanes) lane) ≡ shl_mark registers.taint p lane
    unfolding shl_mark
    mark-is = ap mark_of (both-either registers p.left p.right 4 lanes (omega arith) parts.0 parts.1 lane h)

    pub room-lane-is : room_lane room (shape_of p) p.payload.at lane ≡ shl_lane registers p lane
    unfolding room_lane room_writes shl_lane
    room-lane-is = ap₂ (λ (mark value : ℕ). number_writes (get_or p.payload.at lane 0) p.payload.size mark value) mark-is value-is
