use Rattle.std.proofs.Common.{◌-◌}
use Rattle.cells.specs.Lent.{viewed, Leads}
use Rattle.cells.specs.Over.{among_from, each}
use Rattle.bits.specs.Bits.{bit}
use Rattle.scatter_writes.specs.Mirror.Writes.{row_place, row_writes, all_writes}
use Rattle.scatter_writes.proofs.write_pairs.Given as goal

abbrev pub invariant-loop-channel : goal.invariant-loop-channel
invariant-loop-channel l = Leads l.fn.memory l.memory (each (λ c. row_writes l.base (viewed l.room) (row_place l.pairs c) l.targets.on.now l.targets.sums.now l.pairs.lanes c) (among_from (bit l.pairs.channels) l.channel (4 - l.channel))) (all_writes l.base (viewed l.room) l.pairs l.targets.on.now l.targets.sums.now)
