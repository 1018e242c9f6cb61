-- The sum is where the surface comes to begin, at most 65,535 for each surface before it.
use Rattle.std.proofs.Common.{◌≡◌, ◌*◌, ◌≤◌}
use Rattle.surface_table.specs.Surfaces as table
use Rattle.surface_table.specs.Surfaces.{surface_start}
use Rattle.surface_table.proofs.surface_start.Given as goal

abbrev pub invariant-loop-before : goal.invariant-loop-before
invariant-loop-before l = record {
  small : l.sum ≤ 65535 * l.before;
  start : l.sum ≡ surface_start (table.surfaces l.surfaces) l.before;
}
