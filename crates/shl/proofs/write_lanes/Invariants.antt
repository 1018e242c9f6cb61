use Rattle.std.proofs.Common.{◌-◌}
use Rattle.cells.specs.Lent.{viewed, Leads}
use Rattle.cells.specs.Over.{among_from, among, each}
use Rattle.channels.specs.Mirror.Prepared.{is_on}
use Rattle.shl.specs.Mirror.FromRoom.{room_lane}
use Rattle.shl.proofs.write_lanes.Given as goal

abbrev pub invariant-loop-lane : goal.invariant-loop-lane
invariant-loop-lane l = Leads l.fn.registers l.registers (each (room_lane (viewed l.room) l.shape l.positions) (among_from (is_on l.lanes) l.lane (l.shape.layout.lanes - l.lane))) (each (room_lane (viewed l.room) l.shape l.positions) (among (is_on l.lanes) l.shape.layout.lanes))
