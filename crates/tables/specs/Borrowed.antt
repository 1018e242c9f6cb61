-- Words of contracts: the tables that a function borrows, as the definitions have them.
use Rattle.predicate_table.specs.Borrowed.{predicates_of}
use Rattle.surface_table.specs.Surfaces.{surfaces}
use Rattle.tables.specs.declared.Variables as lent
use Rattle.tables.specs.declared.Tables as all
use Rattle.tables.specs.Variables.{Variables, variables}
use Rattle.tables.specs.Tables.{Tables, tables}

abbrev pub variables_of : lent.Variables → Variables
variables_of t = variables t.types.now t.starts.now t.counts.now

abbrev pub tables_of : all.Tables → Tables
tables_of t = tables (variables_of t.variables) (predicates_of t.predicates) (surfaces t.surface_lengths.now)
