-- The run that a case asks for, out of the loader's buffers and counters.
use Rattle.std.specs.Prelude.{ℕ, cond, List, ltb, take, replicate}
use Rattle.tables.specs.Variables.{variables}
use Rattle.predicate_table.specs.Predicates.{predicates}
use Rattle.surface_table.specs.Surfaces.{surfaces}
use Rattle.tables.specs.Tables.{tables}
use Rattle.tally.specs.declared.Case.{Case}
use Rattle.tally.specs.Mirror.Reading.{Contents, Tables}
use Rattle.tally.specs.Mirror.Lines.{met_of, length_of}
use Rattle.tally.specs.Mirror.Verdicts.{taint_length}
use Rattle.step.specs.State.{Setup, setup, State, state}

-- what does not change: each buffer up to where its frames filled it
unfoldable pub setup_of : Case → List ℕ → Tables → Setup
setup_of c kernel t =
    setup
    (take (length_of 7 c) kernel)
    (tables (variables (take (met_of 2 c) t.types) (take (met_of 2 c) t.starts) (take (met_of 2 c) t.counts)) (predicates (take (met_of 3 c) t.predicate_bits) (take (met_of 3 c) t.predicate_counts)) (surfaces (take (met_of 4 c) t.lengths)))
    (record { base = c.settings.base; mask = c.settings.mask; register_size = c.settings.register_size })

-- "absent means .. marks all 0"; the buffer has this size
unfoldable pub taint_of : ℕ → ℕ → Case → List ℕ → List ℕ
taint_of size kind c taint = cond (ltb 0 (met_of kind c)) taint (replicate size 0)

-- bytes with their marks: an absent frame of marks is as long as the buffer; another length than the buffer's is the run's 13
unfoldable pub state_of : Case → Contents → List ℕ → State
state_of c b surfaces =
    state
    (take (length_of 1 c) b.registers)
    (take (taint_length 8 1 c) (taint_of 4096 8 c b.register_taint))
    (take (length_of 4 c) surfaces)
    (take (taint_length 9 4 c) (taint_of 8192 9 c b.surface_taint))
    (take (length_of 5 c) b.memory)
    (take (taint_length 10 5 c) (taint_of 4096 10 c b.memory_taint))
