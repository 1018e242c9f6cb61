use Rattle.std.proofs.Common.{◌-◌, false, get_or}
use Rattle.cells.specs.Lent.{viewed, Leads}
use Rattle.cells.specs.Over.{among_from, each}
use Rattle.scatter_writes.specs.Mirror.Writes.{pair_writes, row_writes}
use Rattle.scatter_writes.proofs.write_row.Given as goal

abbrev pub invariant-loop-lane : goal.invariant-loop-lane
invariant-loop-lane l = Leads l.fn.memory l.memory (each (λ i. pair_writes l.row.base (viewed l.room) l.row.begin (get_or l.targets.sums.now i 0) l.row.channel i) (among_from (λ k. get_or l.targets.on.now k false) l.lane (l.lanes - l.lane))) (row_writes l.row.base (viewed l.room) l.row.begin l.targets.on.now l.targets.sums.now l.lanes l.row.channel)
