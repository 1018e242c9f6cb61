-- A word of contracts: the table of surfaces in the slice that a function borrows, as an `ensures` names it, at entry and at exit.
use Rattle.std.specs.Prelude.{ℕ, List}
use Rattle.std.specs.Borrow.{Bor}
use denote.Triple.Both.{Both}
use Rattle.surface_table.specs.Surfaces.{Surfaces, surfaces}

abbrev pub surface_table : Both (Bor (List ℕ)) (Bor (List ℕ)) → Surfaces
surface_table lengths = surfaces lengths.entry.now
