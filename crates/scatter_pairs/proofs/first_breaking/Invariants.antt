use Rattle.std.proofs.Common.{◌≡◌}
use Rattle.std.specs.Prelude.{None}
use Rattle.scatter_pairs.proofs.SearchLaws.{ChannelsLeft, LanesLeft}
use Rattle.scatter_pairs.proofs.first_breaking.Given as goal

-- nothing was found yet, and what is left to search finds what the whole does
abbrev pub invariant-lanes : goal.invariant-lanes
invariant-lanes l = record { none : l.found ≡ None; left : LanesLeft l.rule l.targets.on.now l.targets.sums.now l.pairs l.channel l.lane }

abbrev pub invariant-search : goal.invariant-search
invariant-search l = record { none : l.found ≡ None; left : ChannelsLeft l.rule l.targets.on.now l.targets.sums.now l.pairs l.channel }
