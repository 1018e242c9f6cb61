use Rattle.std.proofs.Common.{◌≤◌, ◌≡◌}
use Rattle.payloads.specs.Needed.{enabled_below}
use Rattle.payloads.proofs.enabled_below.Given as goal

-- the count is that of the channels passed
abbrev pub invariant-loop-k : goal.invariant-loop-k
invariant-loop-k l = record { counted : l.count ≡ enabled_below l.channels l.k; small : l.count ≤ l.k }
