-- Words of contracts: the table of predicates that a function borrows, and a predicate as the code has it and as the definitions have it.
use Rattle.std.specs.Prelude.{true, false, Option, None, Some, cond}
use Rattle.predicate_table.specs.declared.Predicate.{Predicate}
use Rattle.predicate_table.specs.declared.Predicates as code
use Rattle.predicate_table.specs.declared.PredicateRecord.{PredicateRecord}
use Rattle.predicate_table.specs.Predicates.{Predicates, predicates}

abbrev pub predicates_of : code.Predicates → Predicates
predicates_of t = predicates t.bits.now t.counts.now

-- none, of a record that is not present
abbrev pub found : PredicateRecord → Option Predicate
found p = cond p.present (Some (record { bits = p.bits; count = p.count })) None

abbrev pub record_of : Option Predicate → PredicateRecord
record_of None = record { present = false; bits = 0; count = 0 }
record_of (Some p) = record { present = true; bits = p.bits; count = p.count }
