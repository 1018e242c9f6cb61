use Rattle.std.proofs.Common.{◌+◌, ◌-◌, ◌≡◌, ◌||◌}
use Rattle.cells.specs.Buffer.{any_tainted}
use Rattle.cell_reads.proofs.some_tainted.Given as goal

-- what was found and what is left make the whole
abbrev pub invariant-loop-k : goal.invariant-loop-k
invariant-loop-k l = (l.found || any_tainted l.taint (l.at + l.k) (l.size - l.k)) ≡ any_tainted l.taint l.at l.size
