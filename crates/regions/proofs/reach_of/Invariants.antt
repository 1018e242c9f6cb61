-- The lowest and the highest of the lanes passed.
use Rattle.std.proofs.Common.{◌≡◌}
use Rattle.regions.specs.Reach.{lowest, highest}
use Rattle.regions.specs.Mirror.Grid.{grid_element}
use Rattle.regions.proofs.reach_of.Given as goal

abbrev pub invariant-loop-lane : goal.invariant-loop-lane
invariant-loop-lane l = record {
  low : l.low ≡ lowest (grid_element l.grid) l.lane;
  high : l.high ≡ highest (grid_element l.grid) l.lane;
}
