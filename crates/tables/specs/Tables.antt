-- What the caller's tables and lengths must satisfy. Document 01, "Tables and sizes", and number 13:
-- "tables (a type not listed too) or lent lengths break the sizes above, or marks differ in length from their buffer".
use Rattle.std.specs.Prelude.{Bool, ◌&&◌}
use Rattle.lengths.specs.declared.Lengths.{Lengths}
use Rattle.lengths.specs.Lengths.{lengths_good}
use Rattle.tables.specs.Variables.{Variables, variables_good}
use Rattle.predicate_table.specs.Predicates.{Predicates, predicates_good}
use Rattle.surface_table.specs.Surfaces.{Surfaces, surfaces_good}

pub record Tables : Type 0 where
  pub variables : Variables
  pub predicates : Predicates
  pub surfaces : Surfaces

abbrev pub tables : Variables → Predicates → Surfaces → Tables
tables variables predicates surfaces = record { variables = variables; predicates = predicates; surfaces = surfaces }

-- 13 is given exactly where this is false
unfoldable pub tables_good : Lengths → Tables → Bool
tables_good l t =
    lengths_good l
    && variables_good l.register_size l.registers t.variables
    && predicates_good t.predicates
    && surfaces_good l.surfaces t.surfaces
