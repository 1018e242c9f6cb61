-- The run of before a run chose the size of its registers (document 02, request 5): no definition here asks for one.
use Rattle.std.specs.Prelude.{ℕ, ◌+◌, ◌*◌, ◌-◌, ◌/◌, ◌%◌, Bool, cond, not, ◌&&◌, List, [], ◌∷◌, ltb, leb, eqb, length, get_or}
use Rattle.element_types.specs.Types.{UD, UQ, size_of, is_listed}
use Rattle.bits.specs.Below.{every_below}
use Rattle.exec_byte.specs.Exec.{exec_size}
use Rattle.refusal.specs.declared.Detail.TheVariants as detail
use Rattle.cells.specs.Buffer.{Buffer}
use Rattle.cells.specs.Writes.{copy_writes}
use Rattle.cells.specs.Over.{each, some}
use Rattle.cells.specs.Effect.{Effect, refused, unless, unless_found, writing}
use Rattle.reader.specs.Reply.{on_reply}
use Rattle.operand_fields.specs.declared.General.{General}
use Rattle.operand_fields.specs.declared.Operand.{Operand}
use Rattle.operand_fields.specs.declared.Operand.TheVariants as operand
use Rattle.decoder.specs.declared.Shl.{Shl}
use Rattle.decoder.specs.declared.Gather.{Gather}
use Rattle.decoder.specs.declared.Scatter.{Scatter}
use Rattle.decoder.specs.declared.RawSend.{RawSend}
use Rattle.decoder.specs.declared.Instruction.{Instruction}
use Rattle.decoder.specs.declared.Instruction.TheVariants as instruction
use Rattle.decoder.specs.Decoding.{instruction_at}
use Rattle.lengths.specs.declared.Lengths.{Lengths}
use Rattle.tables.specs.Variables.{Variables}
use Rattle.predicate_table.specs.Predicates.{predicates_good}
use Rattle.surface_table.specs.Surfaces.{Surfaces, surfaces_good}
use Rattle.tables.specs.Tables.{Tables}
use Rattle.region_rules.specs.declared.Role.{Role}
use Rattle.region_rules.specs.declared.Role.TheVariants as role
use Rattle.regions.specs.declared.Variable.{Variable}
use Rattle.regions.specs.Positions.{element_byte}
use Rattle.regions.specs.Reach.{lowest, highest, inside_variable}
use Rattle.region_rules.specs.RegionRules.{region_refusal}
use Rattle.region_rules.specs.RegionWord.{vertical_code, width_code, horizontal_code, stride_of}
use Rattle.operands.specs.declared.TypeRule.{TypeRule}
use Rattle.operands.specs.declared.TypeRule.TheVariants as rule
use Rattle.operands.specs.Located.{Located}
use Rattle.operands.specs.Allowed.{type_allowed}
use Rattle.operands.specs.Elements.{register_elements, refused_operand}
use Rattle.operands.specs.Operands.{located_immediate, located_raw}
use Rattle.operands.specs.Variables.{in_table, variable_at}
use Rattle.controls.specs.Control.{predicate_for, control_refusal, bits_named}
use Rattle.plan.specs.Plan.{Plan}
use Rattle.plan.specs.Operation.{Operation}
use Rattle.plan.specs.Operation as operation
use Rattle.plan.specs.Checked.{surface_part}
use Rattle.plan.specs.Control.{control_of}
use Rattle.payloads.specs.Needed.{elements_needed, block_bytes}
use Rattle.plan.specs.Plans.{refused_plan, tested, tested_from, shl_plan, gather_plan, scatter_plan}
use Rattle.staging.specs.Lanes.{lanes_on}
use Rattle.staging.specs.Sources.{either_tainted}
use Rattle.scatter_effect.specs.Scatter.{Window, channels_on, target, misaligned, outside, first_offending}
use Rattle.step.specs.declared.Constants.{Constants}
use Rattle.step.specs.State.{Setup, State, lengths_of}
use Rattle.step.specs.Step.{Stepped, acted}
use Rattle.run.specs.Run.{Outcome, stopped, run_from}
use Rattle.earlier.specs.RegistersOf32.{lengths_good32, line_good32, first_element32, two_registers32, registers_needed32, channel_stride32, scatter_needed32, source_byte32}

-- ---- 13

unfoldable pub variable_good32 : ℕ → ℕ → ℕ → ℕ → Bool
variable_good32 registers code start count =
    is_listed code
    && leb 1 count
    && leb (start + count * size_of code) registers
    && eqb (start % size_of code) 0
    && line_good32 start (count * size_of code)

unfoldable pub variables_good32 : ℕ → Variables → Bool
variables_good32 registers t =
    leb (length t.types) 256
    && eqb (length t.starts) (length t.types)
    && eqb (length t.counts) (length t.types)
    && every_below (length t.types) (λ k. variable_good32 registers (get_or t.types k 0) (get_or t.starts k 0) (get_or t.counts k 0))

unfoldable pub tables_good32 : Lengths → Tables → Bool
tables_good32 l t =
    lengths_good32 l
    && variables_good32 l.registers t.variables
    && predicates_good t.predicates
    && surfaces_good l.surfaces t.surfaces

-- ---- an operand

-- "R·(32/size)+C+i·V+j·H"
unfoldable pub element_of32 : Role → General → ℕ → ℕ → ℕ
element_of32 role.Source g size k =
    first_element32 g size + k / stride_of (width_code g.region) * stride_of (vertical_code g.region) + k % stride_of (width_code g.region) * stride_of (horizontal_code g.region)
element_of32 role.Scalar g size k = first_element32 g size
element_of32 role.Destination g size k = first_element32 g size + k * stride_of (horizontal_code g.region)

unfoldable pub elements_good32 : Variable → (ℕ → ℕ) → ℕ → Bool
elements_good32 v element lanes =
    inside_variable element lanes v.count
    && two_registers32 (v.start + lowest element lanes * size_of v.code) (v.start + highest element lanes * size_of v.code + size_of v.code - 1)

unfoldable pub general_of32 : Role → TypeRule → ℕ → General → Variable → Located
general_of32 role rule lanes g v =
    cond (not (type_allowed rule v.code)) (refused_operand 4)
    (cond (ltb 0 (region_refusal role g.region lanes)) (refused_operand (region_refusal role g.region lanes))
    (cond (not (elements_good32 v (element_of32 role g (size_of v.code)) lanes)) (refused_operand 7)
    (register_elements v.code (element_byte v.start (size_of v.code) (element_of32 role g (size_of v.code))))))

unfoldable pub located_vector32 : Variables → Role → TypeRule → ℕ → Operand → Located
located_vector32 t role rule exec (operand.General g) =
    cond (not (in_table t g.index)) (refused_operand 5) (general_of32 role rule (exec_size exec) g (variable_at t g.index))
located_vector32 t role rule exec (operand.Immediate i) = located_immediate role rule i

-- ---- all tests before data; a plan's place for the stride, which was not there, holds it, and nothing below asks for it

module _ (t : Variables) where
  unfoldable pub checked_shl32 : ℕ → Shl → Plan
  checked_shl32 bits i =
      let dst = located_vector32 t role.Destination rule.Shift i.control.exec i.destination in
      let src0 = located_vector32 t role.Source rule.Shift i.control.exec i.source in
      let src1 = located_vector32 t role.Source rule.Shift i.control.exec i.count in
      tested_from 1 (dst ∷ src0 ∷ src1 ∷ []) (shl_plan i.control bits src0.elements src1.elements dst.elements)

  unfoldable pub checked_gather32 : Surfaces → ℕ → Gather → Plan
  checked_gather32 surfaces bits i =
      let offset = located_vector32 t role.Scalar rule.Offset i.control.exec i.offset in
      let element = located_raw t rule.Offset (elements_needed i.control.exec UD) i.element_offset in
      let dst = located_raw t rule.Dword (elements_needed i.control.exec UD) i.destination in
      cond (not (ltb i.access.surface (length surfaces.lengths))) (refused_plan 5 detail.None)
      (tested_from 1 (offset ∷ element ∷ dst ∷ [])
      (gather_plan i.control bits offset.elements element.elements dst.elements (block_bytes i.access.num_blocks) (surface_part surfaces i.access.surface)))

  unfoldable pub checked_scatter32 : ℕ → Scatter → Plan
  checked_scatter32 bits i =
      let address = located_vector32 t role.Scalar rule.Address i.control.exec i.address in
      let element = located_raw t rule.Address (elements_needed i.control.exec UQ) i.element_offset in
      let src = located_raw t rule.Dword (scatter_needed32 i.control.exec i.channels) i.source in
      tested_from 1 (address ∷ element ∷ src ∷ [])
      (scatter_plan i.control bits address.elements element.elements src.elements i.channels (channel_stride32 i.control.exec))

  unfoldable pub checked_send32 : RawSend → Plan
  checked_send32 i =
      let desc = located_vector32 t role.Scalar rule.Offset i.control.exec i.descriptor in
      let src = located_raw t rule.Any (registers_needed32 i.message.num_src) i.source in
      let dst = located_raw t rule.Any (registers_needed32 i.message.num_dst) i.destination in
      tested_from 1 (desc ∷ src ∷ dst ∷ []) (refused_plan 9 detail.None)

unfoldable pub checked_operands32 : Tables → ℕ → Instruction → Plan
checked_operands32 t bits (instruction.Shl i) = checked_shl32 t.variables bits i
checked_operands32 t bits (instruction.Gather i) = checked_gather32 t.variables t.surfaces bits i
checked_operands32 t bits (instruction.Scatter i) = checked_scatter32 t.variables bits i
checked_operands32 t bits (instruction.RawSend i) = checked_send32 t.variables i

unfoldable pub checked32 : Tables → Instruction → Plan
checked32 t i =
    tested (control_refusal (predicate_for t.predicates (control_of i)) (control_of i)) detail.None
    (checked_operands32 t (bits_named (predicate_for t.predicates (control_of i)) (control_of i).pred) i)

-- ---- what is run

unfoldable pub scatter_effect32 : Window → Plan → List ℕ → Buffer → Effect
scatter_effect32 w p lanes registers =
    unless (some (λ i. either_tainted registers.taint p.left p.right i) lanes) 10 detail.None
    (unless_found 11 (first_offending misaligned p lanes registers.bytes)
    (unless_found 12 (first_offending (outside w) p lanes registers.bytes)
    (writing [] (each (λ c. each (λ i. copy_writes registers (source_byte32 p c i) (target registers.bytes p c i - w.base) 4) lanes) (channels_on p)))))

-- SHL and gather are those of now
unfoldable pub acted32 : Constants → Operation → Plan → State → Effect
acted32 c operation.Shl p s = acted c operation.Shl p s
acted32 c operation.Gather p s = acted c operation.Gather p s
acted32 c operation.Scatter p s =
    scatter_effect32 (record { base = c.base; length = length s.memory.bytes }) p (lanes_on c.mask p) s.registers
acted32 c operation.Refused p s = acted c operation.Refused p s

unfoldable pub plan_effect32 : Constants → Plan → State → Effect
plan_effect32 c p s = unless (not (eqb p.number 0)) p.number p.detail (acted32 c p.operation p s)

unfoldable pub step_at32 : Setup → ℕ → State → Stepped
step_at32 x at s =
    on_reply (instruction_at x.kernel at)
    (λ n. record { next = at; effect = refused n detail.None })
    (λ i. record { next = i.next; effect = plan_effect32 x.constants (checked32 x.tables i.value) s })

unfoldable pub run32 : Setup → State → Outcome
run32 x s =
    cond (tables_good32 (lengths_of x s) x.tables)
    (run_from (step_at32 x) (length x.kernel) (length x.kernel) 0 0 s)
    (stopped 13 0 0 s)
