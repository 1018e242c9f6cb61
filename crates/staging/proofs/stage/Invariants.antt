use Rattle.std.proofs.Common.{◌-◌, true}
use Rattle.cells.specs.Over.{among_from, among, each}
use Rattle.cells.specs.Lent.{viewed, Leads}
use Rattle.staging.specs.Mirror.Room.{stage_lane}
use Rattle.staging.proofs.stage.Given as goal

abbrev pub invariant-loop-lane : goal.invariant-loop-lane
invariant-loop-lane l = Leads l.fn.room l.room (each (stage_lane (viewed l.registers) l.elements l.base) (among_from (λ _. true) l.lane (l.lanes - l.lane))) (each (stage_lane (viewed l.registers) l.elements l.base) (among (λ _. true) l.lanes))
