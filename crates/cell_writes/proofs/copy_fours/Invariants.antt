use Rattle.std.proofs.Common.{◌+◌, ◌-◌, ◌*◌}
use Rattle.cells.specs.Writes.{copy_writes}
use Rattle.cells.specs.Lent.{viewed, Leads}
use Rattle.cell_writes.proofs.copy_fours.Given as goal

abbrev pub invariant-loop-four : goal.invariant-loop-four
invariant-loop-four l = Leads l.fn.to l.to (copy_writes (viewed l.from) (l.source_at + 4 * l.four) (l.at + 4 * l.four) (l.count - 4 * l.four)) (copy_writes (viewed l.from) l.source_at l.at l.count)
