-- Which operand a refusal names, and by which rule. Document 02, request 2: "name the operand by its place in field order, from 1, surfaces not
-- counted".
use Rattle.std.specs.Prelude.{ℕ, suc, ◌≡◌, true, false, List, [], ◌∷◌}
use Rattle.refusal.specs.declared.Detail.TheVariants as detail
use Rattle.refusal.specs.Details.{names_operand}
use Rattle.element_types.specs.Types.{UD, UQ}
use Rattle.exec_byte.specs.Exec.{exec_size}
use Rattle.tables.specs.Tables.{Tables}
use Rattle.tables.specs.Variables.{Variables}
use Rattle.operand_fields.specs.declared.General.{General}
use Rattle.operand_fields.specs.declared.Raw.{Raw}
use Rattle.operand_fields.specs.declared.Operand.{Operand}
use Rattle.operand_fields.specs.declared.Operand.TheVariants as kind
use Rattle.decoder.specs.declared.Instruction.{Instruction}
use Rattle.decoder.specs.declared.Instruction.TheVariants as instruction
use Rattle.region_rules.specs.declared.Role.{Role}
use Rattle.region_rules.specs.declared.Role.TheVariants as role
use Rattle.region_rules.specs.RegionRules.{region_refusal}
use Rattle.operands.specs.declared.TypeRule.{TypeRule}
use Rattle.operands.specs.declared.TypeRule.TheVariants as rule
use Rattle.operands.specs.Located.{Located}
use Rattle.operands.specs.Allowed.{type_allowed}
use Rattle.operands.specs.Variables.{in_table, variable_at}
use Rattle.operands.specs.Operands.{located_vector, located_raw}
use Rattle.plan.specs.Plan.{Plan}
use Rattle.plan.specs.Control.{control_of}
use Rattle.payloads.specs.Needed.{elements_needed, channel_stride, scatter_needed, registers_needed}

-- an operand as an instruction has it: a vector operand or a scalar, or a raw operand of which so many bytes are needed
pub data Asked : Type 0 where
  vector : Role → TypeRule → Operand → Asked
  raw : TypeRule → ℕ → Raw → Asked

-- the operands in field order
abbrev pub operands_of : ℕ → Instruction → List Asked
operands_of register_size (instruction.Shl i) =
    vector role.Destination rule.Shift i.destination ∷ vector role.Source rule.Shift i.source ∷ vector role.Source rule.Shift i.count ∷ []
operands_of register_size (instruction.Gather i) =
    vector role.Scalar rule.Offset i.offset
    ∷ raw rule.Offset (elements_needed i.control.exec UD) i.element_offset
    ∷ raw rule.Dword (elements_needed i.control.exec UD) i.destination
    ∷ []
operands_of register_size (instruction.Scatter i) =
    vector role.Scalar rule.Address i.address
    ∷ raw rule.Address (elements_needed i.control.exec UQ) i.element_offset
    ∷ raw rule.Dword (scatter_needed (channel_stride register_size i.control.exec) i.control.exec i.channels) i.source
    ∷ []
operands_of register_size (instruction.RawSend i) =
    vector role.Scalar rule.Offset i.descriptor
    ∷ raw rule.Any (registers_needed register_size i.message.num_src) i.source
    ∷ raw rule.Any (registers_needed register_size i.message.num_dst) i.destination
    ∷ []

-- in an instruction with this exec byte, by registers of this size
module _ (register_size : ℕ) (t : Variables) (exec : ℕ) where
  -- what an operand's tests come to
  abbrev pub located : Asked → Located
  located (vector role rule o) = located_vector register_size t role rule exec o
  located (raw rule bytes r) = located_raw t rule bytes r

  -- of operands of which the first is at a place: the one at this place is that, and all before it are good
  pub data StandsAt : ℕ → List Asked → ℕ → Asked → Type 0 where
    here : {place : ℕ} {o : Asked} {os : List Asked} → StandsAt place (o ∷ os) place o
    later : {first place : ℕ} {o q : Asked} {os : List Asked} → (located o).number ≡ 0 → StandsAt (suc first) os place q → StandsAt first (o ∷ os) place q

  -- refused by its region: a General operand that is in the table and has an allowed type, and of whose region this is the number of the first broken rule
  pub data RegionRefused : Asked → ℕ → Type 0 where
    broken : {role : Role} {rule : TypeRule} {g : General} {n : ℕ} → in_table t g.index ≡ true → type_allowed rule (variable_at t g.index).code ≡ true → region_refusal role g.region (exec_size exec) ≡ n
        → RegionRefused (vector role rule (kind.General g)) n

  -- what a plan's detail tells of these operands: 20 to 25 name the one that its region refuses, no other number names any
  pub data Names (first : ℕ) (os : List Asked) (p : Plan) : Type 0 where
    nothing : p.detail ≡ detail.None → names_operand p.number ≡ false → Names first os p
    operand : {place : ℕ} {o : Asked} → p.detail ≡ detail.Operand place → names_operand p.number ≡ true → StandsAt first os place o → RegionRefused o p.number → Names first os p

-- of an instruction's own operands, by the tables' variables and its exec byte
abbrev pub NamesOf : ℕ → Tables → Instruction → Plan → Type 0
NamesOf register_size t i p = Names register_size t.variables (control_of i).exec 1 (operands_of register_size i) p
