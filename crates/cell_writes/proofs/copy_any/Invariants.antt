use Rattle.std.proofs.Common.{◌+◌, ◌-◌}
use Rattle.cells.specs.Writes.{copy_writes}
use Rattle.cells.specs.Lent.{viewed, Leads}
use Rattle.cell_writes.proofs.copy_any.Given as goal

abbrev pub invariant-loop-k : goal.invariant-loop-k
invariant-loop-k l = Leads l.fn.to l.to (copy_writes (viewed l.from) (l.source_at + l.k) (l.at + l.k) (l.count - l.k)) (copy_writes (viewed l.from) l.source_at l.at l.count)
