-- What good tables and lengths give the crates above.
use mathlib.Core.Path.{◌≡◌}
use mathlib.Core.Bool.{true}
use Prim.Native.Nat.{ℕ, ◌+◌, ◌≤◌, ◌<◌}
use lib.ListN.{length, get_or}
use Rattle.lengths.specs.declared.Lengths.{Lengths}
use Rattle.lengths.specs.Lengths.{lengths_good}
use Rattle.tables.specs.Variables.{variables_good}
use Rattle.predicate_table.specs.Predicates.{predicates_good}
use Rattle.surface_table.specs.Surfaces.{surface_length, surface_start, surfaces_good}
use Rattle.tables.specs.Tables.{Tables, tables_good}
use Rattle.bits.proofs.All.{All4, all4}
use Rattle.lengths.proofs.Limits.{Limited, lengths-limited}
use Rattle.tables.proofs.Placement as placement
use Rattle.tables.proofs.Placement.{Placed}
use Rattle.predicate_table.proofs.PredicateCounts as counts
use Rattle.surface_table.proofs.SurfacePlaces as places

pub record Counted (t : Tables) : Type 0 where
  pub variables-few : length t.variables.types ≤ 256
  pub starts-length : length t.variables.starts ≡ length t.variables.types
  pub counts-length : length t.variables.counts ≡ length t.variables.types
  pub predicates-few : length t.predicates.bits ≤ 64
  pub predicate-counts-length : length t.predicates.counts ≡ length t.predicates.bits
  pub surfaces-few : length t.surfaces.lengths ≤ 8

module _ (l : Lengths) (t : Tables) (good : tables_good l t ≡ true) where
  tests : All4 (lengths_good l) (variables_good l.register_size l.registers t.variables) (predicates_good t.predicates)
      (surfaces_good l.surfaces t.surfaces)
  unfolding tables_good
  tests = all4 _ _ _ _ good

  pub limited : Limited l
  limited = lengths-limited l tests.first

  pub counted : Counted t
  counted =
      let v = tests.second in
      record {
        variables-few = placement.variables-few _ _ _ v;
        starts-length = placement.starts-length _ _ _ v;
        counts-length = placement.counts-length _ _ _ v;
        predicates-few = counts.predicates-few t.predicates tests.third;
        predicate-counts-length = counts.counts-length t.predicates tests.third;
        surfaces-few = places.surfaces-few _ _ tests.fourth;
      }

  pub placed : (k : ℕ) → k < length t.variables.types → Placed l.register_size l.registers (get_or t.variables.types k 0) (get_or t.variables.starts k 0) (get_or t.variables.counts k 0)
  placed = placement.variable-placed _ _ _ tests.second

  pub predicate-count : (k : ℕ) → k < length t.predicates.bits → (1 ≤ get_or t.predicates.counts k 0) × (get_or t.predicates.counts k 0 ≤ 32)
  predicate-count = counts.count-within t.predicates tests.third

  pub surface-inside : (k : ℕ) → k < length t.surfaces.lengths → surface_start t.surfaces k + surface_length t.surfaces k ≤ l.surfaces
  surface-inside = places.surface-inside _ _ tests.fourth

  pub surface-small : (k : ℕ) → k < length t.surfaces.lengths → surface_length t.surfaces k ≤ 1024
  surface-small = places.surface-small _ _ tests.fourth

  pub surfaces-small : l.surfaces ≤ 8192
  surfaces-small = places.surfaces-small _ _ tests.fourth
