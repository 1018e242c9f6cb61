-- The positions of the lanes passed.
use Rattle.std.proofs.Common.{◌≡◌, replicate}
use Rattle.regions.specs.Positions.{filled, element_byte}
use Rattle.regions.specs.Mirror.Grid.{grid_element}
use Rattle.regions.proofs.lane_positions.Given as goal

abbrev pub invariant-loop-lane : goal.invariant-loop-lane
invariant-loop-lane l = l.at ≡ filled (replicate 32 0) (element_byte l.base l.size (grid_element l.grid)) l.lane
