-- The number of the first failing test before data, with document 01's one rule of regions, 6, in the place of 20 to 25. Document 01, "The numbers
-- given back": "A run then tests 8; predicate 5; surface 5; each operand in order 5, 4 (type), 6, 7; 9". The tests of exec byte and pred word are
-- those of now, 17 among them, and registers have the size of now.
use Rattle.std.specs.Prelude.{ℕ, zero, suc, cond, not, List, [], ◌∷◌, map, ltb, length}
use Rattle.refusal.specs.Details.{names_operand}
use Rattle.element_types.specs.Types.{size_of}
use Rattle.exec_byte.specs.Exec.{exec_size}
use Rattle.operand_fields.specs.declared.General.{General}
use Rattle.operand_fields.specs.declared.Operand.{Operand}
use Rattle.operand_fields.specs.declared.Operand.TheVariants as operand
use Rattle.tables.specs.Tables.{Tables}
use Rattle.tables.specs.Variables.{Variables}
use Rattle.decoder.specs.declared.Instruction.{Instruction}
use Rattle.decoder.specs.declared.Instruction.TheVariants as instruction
use Rattle.region_rules.specs.declared.Role.{Role}
use Rattle.regions.specs.declared.Variable.{Variable}
use Rattle.region_rules.specs.RegionWord.{region_allowed}
use Rattle.regions.specs.Regions.{element_of}
use Rattle.regions.specs.Reach.{elements_good}
use Rattle.operands.specs.declared.TypeRule.{TypeRule}
use Rattle.operands.specs.Allowed.{type_allowed}
use Rattle.operands.specs.Variables.{in_table, variable_at}
use Rattle.operands.specs.Operands.{located_immediate, located_raw}
use Rattle.controls.specs.Control.{predicate_for, control_refusal}
use Rattle.plan.specs.Control.{control_of}
use Rattle.plan.specs.Places.{Asked, vector, raw, operands_of}

-- "4 (type), 6, 7": 6 where document 01's rule of the region's parameters (`region_allowed`) does not hold
unfoldable pub general_number : ℕ → Role → TypeRule → ℕ → General → Variable → ℕ
general_number register_size role rule lanes g v =
    cond (not (type_allowed rule v.code)) 4
    (cond (not (region_allowed role g.region lanes)) 6
    (cond (not (elements_good register_size v (element_of register_size role g (size_of v.code)) lanes)) 7 0))

-- a vector operand or a scalar
unfoldable pub vector_number : ℕ → Variables → Role → TypeRule → ℕ → Operand → ℕ
vector_number register_size t role rule exec (operand.General g) =
    cond (not (in_table t g.index)) 5 (general_number register_size role rule (exec_size exec) g (variable_at t g.index))
vector_number register_size t role rule exec (operand.Immediate i) = (located_immediate role rule i).number

-- the first of these numbers that is not 0, else the last one
abbrev pub first_refusal : List ℕ → ℕ → ℕ
first_refusal [] last = last
first_refusal (zero ∷ ns) last = first_refusal ns last
first_refusal (suc n ∷ ns) last = suc n

-- raw operands have no region
abbrev pub asked_number : ℕ → Variables → ℕ → Asked → ℕ
asked_number register_size t exec (vector role rule o) = vector_number register_size t role rule exec o
asked_number register_size t exec (raw rule bytes r) = (located_raw t rule bytes r).number

-- "each operand in order"
abbrev pub operand_numbers : ℕ → Variables → Instruction → List ℕ
operand_numbers register_size t i = map (asked_number register_size t (control_of i).exec) (operands_of register_size i)

-- "surface 5", of a gather
unfoldable pub surface_number : Tables → Instruction → ℕ
surface_number t (instruction.Gather i) = cond (not (ltb i.access.surface (length t.surfaces.lengths))) 5 0
surface_number t (instruction.Shl i) = 0
surface_number t (instruction.Scatter i) = 0
surface_number t (instruction.RawSend i) = 0

-- "9", of a RAW_SEND
unfoldable pub last_number : Instruction → ℕ
last_number (instruction.RawSend i) = 9
last_number (instruction.Shl i) = 0
last_number (instruction.Gather i) = 0
last_number (instruction.Scatter i) = 0

unfoldable pub number_before : ℕ → Tables → Instruction → ℕ
number_before register_size t i =
    first_refusal (control_refusal (predicate_for t.predicates (control_of i)) (control_of i) ∷ surface_number t i ∷ operand_numbers register_size t.variables i) (last_number i)

-- "6 becomes 20 to 24 .. 25", turned back
unfoldable pub as_before : ℕ → ℕ
as_before n = cond (names_operand n) 6 n
