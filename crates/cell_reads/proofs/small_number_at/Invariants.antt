use Rattle.std.proofs.Common.{◌+◌, ◌-◌, ◌≡◌}
use Rattle.little_endian.specs.LittleEndian.{number_at}
use Rattle.cell_reads.proofs.small_number_at.Given as goal

-- the number so far is that of the bytes from k on
abbrev pub invariant-loop-k : goal.invariant-loop-k
invariant-loop-k l = l.number ≡ number_at (l.size - l.k) l.bytes (l.at + l.k)
