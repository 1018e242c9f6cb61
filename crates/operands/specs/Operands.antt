-- One operand: refused by its tests in order, or where its elements are. Document 01, "The numbers given back":
-- "each operand in order 5, 4 (type), 6, 7"; document 02, request 2: "6 becomes 20 to 24 .. 25 alone, in the same place".
use Rattle.std.specs.Prelude.{ℕ, ◌+◌, ◌*◌, ◌%◌, ◌^◌, Bool, cond, not, ◌&&◌, ltb, leb, eqb}
use Rattle.element_types.specs.Types.{size_of}
use Rattle.exec_byte.specs.Exec.{exec_size}
use Rattle.operand_fields.specs.declared.General.{General}
use Rattle.operand_fields.specs.declared.Immediate.{Immediate}
use Rattle.operand_fields.specs.declared.Raw.{Raw}
use Rattle.operand_fields.specs.declared.Operand.{Operand}
use Rattle.operand_fields.specs.declared.Operand.TheVariants as operand
use Rattle.region_rules.specs.declared.Role.{Role}
use Rattle.region_rules.specs.declared.Role.TheVariants as role
use Rattle.regions.specs.declared.Variable.{Variable}
use Rattle.regions.specs.Regions.{element_of}
use Rattle.region_rules.specs.RegionRules.{region_refusal}
use Rattle.regions.specs.Reach.{elements_good}
use Rattle.regions.specs.Positions.{element_byte}
use Rattle.operands.specs.declared.TypeRule.{TypeRule}
use Rattle.operands.specs.Located.{Located}
use Rattle.operands.specs.Allowed.{type_allowed}
use Rattle.tables.specs.Variables.{Variables}
use Rattle.operands.specs.Variables.{in_table, variable_at}
use Rattle.operands.specs.Elements.{register_elements, immediate_element, refused_operand}

-- a General operand of a variable in the table: 4, 20 to 25, 7
unfoldable pub general_of : ℕ → Role → TypeRule → ℕ → General → Variable → Located
general_of register_size role rule lanes g v =
    cond (not (type_allowed rule v.code)) (refused_operand 4)
    (cond (ltb 0 (region_refusal role g.region lanes)) (refused_operand (region_refusal role g.region lanes))
    (cond (not (elements_good register_size v (element_of register_size role g (size_of v.code)) lanes)) (refused_operand 7)
    (register_elements v.code (element_byte v.start (size_of v.code) (element_of register_size role g (size_of v.code))))))

-- 5, then the others
unfoldable pub located_general : ℕ → Variables → Role → TypeRule → ℕ → General → Located
located_general register_size t role rule exec g =
    cond (not (in_table t g.index)) (refused_operand 5)
    (general_of register_size role rule (exec_size exec) g (variable_at t g.index))

-- an Immediate source: 4
unfoldable pub immediate_of : TypeRule → Immediate → Located
immediate_of rule i =
    cond (not (type_allowed rule i.code)) (refused_operand 4)
    (immediate_element i.code (i.low + 2 ^ 32 * i.high))

-- "any class but General, or Immediate on a source, is 4"
unfoldable pub located_immediate : Role → TypeRule → Immediate → Located
located_immediate role.Source rule i = immediate_of rule i
located_immediate role.Scalar rule i = immediate_of rule i
located_immediate role.Destination rule i = refused_operand 4

-- a vector operand or a scalar
unfoldable pub located_vector : ℕ → Variables → Role → TypeRule → ℕ → Operand → Located
located_vector register_size t role rule exec (operand.General g) = located_general register_size t role rule exec g
located_vector register_size t role rule exec (operand.Immediate i) = located_immediate role rule i

-- "it lies in its variable and its offset is a multiple of the element size"
unfoldable pub raw_good : Variable → ℕ → ℕ → Bool
raw_good v offset bytes = eqb (offset % size_of v.code) 0 && leb (offset + bytes) (v.count * size_of v.code)

-- a raw operand of a variable in the table: 4, 7; its elements follow one another from the offset on
unfoldable pub raw_of : TypeRule → ℕ → ℕ → Variable → Located
raw_of rule bytes offset v =
    cond (not (type_allowed rule v.code)) (refused_operand 4)
    (cond (not (raw_good v offset bytes)) (refused_operand 7)
    (register_elements v.code (element_byte (v.start + offset) (size_of v.code) (λ k. k))))

-- a raw operand of which so many bytes are needed: 5, then the others
unfoldable pub located_raw : Variables → TypeRule → ℕ → Raw → Located
located_raw t rule bytes r =
    cond (not (in_table t r.index)) (refused_operand 5)
    (raw_of rule bytes r.offset (variable_at t r.index))
