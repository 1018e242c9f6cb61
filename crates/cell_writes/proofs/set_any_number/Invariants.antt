use Rattle.std.proofs.Common.{◌+◌, ◌-◌}
use Rattle.cells.specs.Buffer.{mark_of}
use Rattle.cells.specs.Writes.{number_writes}
use Rattle.cells.specs.Lent.{Leads}
use Rattle.cell_writes.proofs.set_any_number.Given as goal

abbrev pub invariant-loop-k : goal.invariant-loop-k
invariant-loop-k l = Leads l.fn.to l.to (number_writes (l.at + l.k) (l.size - l.k) (mark_of l.tainted) l.rest) (number_writes l.at l.size (mark_of l.tainted) l.value)
