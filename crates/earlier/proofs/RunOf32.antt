-- A run that chooses registers of 32 bytes is the run of before, answer, bytes and marks, 13 included.
use Prim.Native.Nat.{ℕ}
use mathlib.Core.Path.{◌≡◌, refl, sym, ap, subst, ◌∙◌}
use mathlib.Core.Bool.{Bool, true, false, cond, not}
use mathlib.Core.List.{List}
use lib.Dec.{eqb}
use lib.ListN.{length}
use borrow.Author.Tests.{eqb-true}
use Rattle.refusal.specs.declared.Detail.TheVariants as detail
use Rattle.cells.specs.Buffer.{Buffer}
use Rattle.cells.specs.Effect.{Effect, refused, unless}
use Rattle.reader.specs.Reply as reply
use Rattle.reader.specs.Reply.{Reply, Read, on_reply}
use Rattle.field_groups.specs.declared.Control.{Control}
use Rattle.operand_fields.specs.declared.General.{General}
use Rattle.operand_fields.specs.declared.Operand.{Operand}
use Rattle.operand_fields.specs.declared.Operand.TheVariants as operand
use Rattle.decoder.specs.declared.Instruction.{Instruction}
use Rattle.decoder.specs.declared.Instruction.TheVariants as instruction
use Rattle.decoder.specs.Decoding.{instruction_at}
use Rattle.lengths.specs.declared.Lengths.{Lengths}
use Rattle.tables.specs.Variables.{Variables, line_good, variable_good, variable_good_at, variables_good}
use Rattle.tables.specs.Tables.{Tables, tables_good}
use Rattle.region_rules.specs.declared.Role.{Role}
use Rattle.region_rules.specs.declared.Role.TheVariants as role
use Rattle.regions.specs.declared.Variable.{Variable}
use Rattle.regions.specs.Regions.{row_elements, first_element, source_element, element_of}
use Rattle.regions.specs.Reach.{two_registers, reach_good, elements_good}
use Rattle.operands.specs.declared.TypeRule.{TypeRule}
use Rattle.operands.specs.Operands.{general_of, located_general, located_vector}
use Rattle.plan.specs.Plan.{Plan}
use Rattle.plan.specs.Operation.{Operation}
use Rattle.plan.specs.Operation as operation
use Rattle.payloads.specs.Needed.{registers_needed}
use Rattle.plan.specs.Checked.{shl_dst, shl_src0, shl_src1, checked_shl, gather_offset, gather_element_offset, gather_dst, checked_gather_operands, checked_gather, scatter_address, scatter_element_offset, scatter_src, checked_scatter, send_desc, send_src, send_dst, checked_send, checked_operands, checked}
use Rattle.plan.proofs.InstructionLaws.{plan-keeps}
use Rattle.scatter_effect.specs.Scatter.{Window, scatter_pair, scatter_effect, source_byte}
use Rattle.step.specs.declared.Constants.{Constants}
use Rattle.step.specs.State.{Setup, State, register_bytes, lengths_of}
use Rattle.step.specs.Step.{Stepped, acted, plan_effect, step_at}
use Rattle.step.proofs.StepOf.{step_of}
use Rattle.run.specs.Run.{stopped, run_from, run}
use Rattle.earlier.specs.RegistersOf32.{line_good32, first_element32, two_registers32, registers_needed32, channel_stride32, source_byte32}
use Rattle.earlier.specs.RunOf32.{variable_good32, variables_good32, tables_good32, element_of32, elements_good32, general_of32, located_vector32, checked_shl32, checked_gather32, checked_scatter32, checked_send32, checked_operands32, checked32, scatter_effect32, acted32, plan_effect32, step_at32, run32}
use Rattle.earlier.proofs.RegistersOf32.{lengths-32, stride-32, scatter-needed-32, chosen-32}

tables-32 : (l : Lengths) (t : Tables) → l.register_size ≡ 32 → tables_good l t ≡ tables_good32 l t
unfolding tables_good tables_good32 variables_good variables_good32 variable_good_at variable_good variable_good32 line_good line_good32
tables-32 l t e = rw (lengths-32 l e, e) refl

general-32 : (r : Role) (k : TypeRule) (lanes : ℕ) (g : General) (v : Variable) → general_of 32 r k lanes g v ≡ general_of32 r k lanes g v
unfolding general_of general_of32 elements_good elements_good32 reach_good two_registers two_registers32 element_of element_of32 source_element first_element first_element32 row_elements
general-32 role.Source k lanes g v = refl
general-32 role.Scalar k lanes g v = refl
general-32 role.Destination k lanes g v = refl

vector-32 : (t : Variables) (r : Role) (k : TypeRule) (exec : ℕ) (x : Operand) → located_vector 32 t r k exec x ≡ located_vector32 t r k exec x
unfolding located_vector located_vector32 located_general
vector-32 t r k exec (operand.General g) = rw (general-32 r k)
vector-32 t r k exec (operand.Immediate i) = refl

operands-32 : (t : Tables) (bits : ℕ) (i : Instruction) → checked_operands 32 t bits i ≡ checked_operands32 t bits i
unfolding checked_operands checked_operands32 checked_shl checked_shl32 shl_dst shl_src0 shl_src1 checked_gather checked_gather_operands checked_gather32 gather_offset gather_element_offset gather_dst checked_scatter checked_scatter32 scatter_address scatter_element_offset scatter_src checked_send checked_send32 send_desc send_src send_dst registers_needed registers_needed32
operands-32 t bits (instruction.Shl i) = rw (vector-32 t.variables role.Destination, vector-32 t.variables role.Source, vector-32 t.variables role.Source)
operands-32 t bits (instruction.Gather i) = rw (vector-32 t.variables role.Scalar)
operands-32 t bits (instruction.Scatter i) = rw (vector-32 t.variables role.Scalar, scatter-needed-32 i.control.exec i.channels, stride-32 i.control.exec)
operands-32 t bits (instruction.RawSend i) = rw (vector-32 t.variables role.Scalar)

pub checked-32 : (t : Tables) (i : Instruction) → checked 32 t i ≡ checked32 t i
unfolding checked checked32
checked-32 t i = rw (operands-32 t)

-- a scatter whose plan has the stride of 32-byte registers takes the same data
scatter-32 : (w : Window) (p : Plan) (lanes : List ℕ) (b : Buffer) → p.stride ≡ channel_stride32 p.control.exec → scatter_effect w p lanes b ≡ scatter_effect32 w p lanes b
unfolding scatter_effect scatter_effect32 scatter_pair source_byte source_byte32
scatter-32 w p lanes b e = rw e refl

module _ (c : Constants) (t : Tables) (s : State) where
  abbrev planned : Instruction → Plan
  planned i = checked 32 t i

  acts-as : (o : Operation) (p : Plan) → p.operation ≡ o → acted c o p s ≡ acted32 c o p s → acted c p.operation p s ≡ acted32 c p.operation p s
  acts-as o p is = subst (λ (q : Operation). acted c q p s ≡ acted32 c q p s) (sym is)

  acted-32 : (i : Instruction) → (planned i).number ≡ 0 → acted c (planned i).operation (planned i) s ≡ acted32 c (planned i).operation (planned i) s
  unfolding acted acted32
  acted-32 (instruction.Shl i) z = acts-as operation.Shl _ (plan-keeps 32 t (instruction.Shl i) z).operation refl
  acted-32 (instruction.Gather i) z = acts-as operation.Gather _ (plan-keeps 32 t (instruction.Gather i) z).operation refl
  acted-32 (instruction.Scatter i) z =
      let k = plan-keeps 32 t (instruction.Scatter i) z in
      acts-as operation.Scatter _ k.operation
      (scatter-32 _ (planned (instruction.Scatter i)) _ _ (k.stride-is ∙ (stride-32 i.control.exec ∙ sym (ap (λ (q : Control). channel_stride32 q.exec) k.control))))
  acted-32 (instruction.RawSend i) z = absurd (plan-keeps 32 t (instruction.RawSend i) z)

  effect-32 : (i : Instruction) → plan_effect c (planned i) s ≡ plan_effect32 c (planned i) s
  unfolding plan_effect plan_effect32 unless
  effect-32 i = told (eqb (planned i).number 0) refl
    where
      told : (q : Bool) → eqb (planned i).number 0 ≡ q → plan_effect c (planned i) s ≡ plan_effect32 c (planned i) s
      told true e = ap (λ (f : Effect). unless (not (eqb (planned i).number 0)) (planned i).number (planned i).detail f) (acted-32 i (eqb-true (planned i).number 0 e))
      told false e = rw e

module _ (x : Setup) (chosen : x.constants.register_size ≡ 32) where
  plan-32 : (i : Instruction) (s : State) → plan_effect x.constants (checked (register_bytes x) x.tables i) s ≡ plan_effect32 x.constants (checked32 x.tables i) s
  plan-32 i s =
      ap (λ (n : ℕ). plan_effect x.constants (checked n x.tables i) s) (chosen-32 x chosen)
      ∙ (effect-32 x.constants x.tables s i ∙ ap (λ (p : Plan). plan_effect32 x.constants p s) (checked-32 x.tables i))

  step-32 : (at : ℕ) (s : State) → step_at x at s ≡ step_at32 x at s
  unfolding step_at step_at32
  step-32 at s = told (instruction_at x.kernel at)
    where
      told : (d : Reply (Read Instruction)) → step_of x (λ (p : Plan). plan_effect x.constants p s) at d
          ≡ on_reply d (λ n. record { next = at; effect = refused n detail.None }) (λ i. record { next = i.next; effect = plan_effect32 x.constants (checked32 x.tables i.value) s })
      told (reply.refused n) = refl
      told (reply.done i) = ap (λ (e : Effect). record { next = i.next; effect = e }) (plan-32 i.value s)

  -- "absent means 32": as before
  pub run-32 : (s : State) → run x s ≡ run32 x s
  unfolding run run32
  run-32 s =
      rw (tables-32 (lengths_of x s) x.tables chosen)
      (ap (λ (f : ℕ → State → Stepped). cond (tables_good32 (lengths_of x s) x.tables) (run_from f (length x.kernel) (length x.kernel) 0 0 s) (stopped 13 0 0 s)) (λ j at u. step-32 at u j))
