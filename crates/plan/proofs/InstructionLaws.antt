-- An accepted plan is its instruction's, whatever the tables hold: it has that operation, exec byte and pred word, at most 32 lanes, and elements
-- of sizes that its operation takes.
use mathlib.Core.Path.{◌≡◌, refl}
use Prim.Native.Nat.{ℕ, ◌≤◌}
use mathlib.Core.Bool.{not}
use native.Mathlib.Omega.{arith}
use lib.Dec.{ltb}
use lib.ListN.{length}
use Rattle.element_types.specs.Types.{UD, UQ}
use Rattle.exec_byte.specs.Exec.{exec_size}
use Rattle.tables.specs.Tables.{Tables}
use Rattle.field_groups.specs.declared.Control.{Control}
use Rattle.refusal.specs.declared.Detail.{Detail}
use Rattle.refusal.specs.declared.Detail.TheVariants as detail
use Rattle.decoder.specs.declared.Shl.{Shl}
use Rattle.decoder.specs.declared.Gather.{Gather}
use Rattle.decoder.specs.declared.Scatter.{Scatter}
use Rattle.decoder.specs.declared.RawSend.{RawSend}
use Rattle.decoder.specs.declared.Instruction.{Instruction}
use Rattle.decoder.specs.declared.Instruction.TheVariants as instruction
use Rattle.region_rules.specs.declared.Role.TheVariants as role
use Rattle.regions.proofs.ReachLaws.{cond_either}
use Rattle.operands.specs.declared.TypeRule.{TypeRule}
use Rattle.operands.specs.declared.TypeRule.TheVariants as rule
use Rattle.tables.specs.Variables.{Variables}
use Rattle.operands.proofs.AllowedLaws.{RuleSize}
use Rattle.operands.proofs.SizeLaws.{vector-sized, raw-sized}
use Rattle.plan.specs.Operation.{Operation}
use Rattle.plan.specs.Operation as operation
use Rattle.plan.specs.Part.{Part}
use Rattle.plan.specs.Plan.{Plan}
use Rattle.controls.specs.Control.{predicate_for, control_refusal}
use Rattle.plan.specs.Control.{control_of}
use Rattle.payloads.specs.Needed.{elements_needed, channel_stride, scatter_needed}
use Rattle.plan.specs.Plans.{tested, shl_plan, gather_plan, scatter_plan}
use Rattle.plan.specs.Checked.{shl_dst, shl_src0, shl_src1, checked_shl, gather_offset, gather_element_offset, gather_dst, checked_gather_operands, surface_part, checked_gather, scatter_address, scatter_element_offset, scatter_src, checked_scatter, checked_send, checked_operands, checked}
use Rattle.controls.proofs.PassedLaws.{lanes_fit}
use Rattle.plan.proofs.TestLaws.{refusal-number, accepted-then}

-- an operation, its control, the types of its two sources and of its payload, and the stride of channels, 0 of all but a scatter
pub record Keeps (o : Operation) (c : Control) (sources payloads : TypeRule) (stride : ℕ) (p : Plan) : Type 0 where
  pub operation : p.operation ≡ o
  pub control : p.control ≡ c
  pub lanes : exec_size c.exec ≤ 32
  pub left : RuleSize sources p.left.size
  pub right : RuleSize sources p.right.size
  pub payload : RuleSize payloads p.payload.size
  pub stride-is : p.stride ≡ stride

-- no refused plan is accepted
abbrev pub KeepsFor : ℕ → Instruction → Plan → Type 0
KeepsFor register_size (instruction.Shl i) = Keeps operation.Shl i.control rule.Shift rule.Shift 0
KeepsFor register_size (instruction.Gather i) = Keeps operation.Gather i.control rule.Offset rule.Dword 0
KeepsFor register_size (instruction.Scatter i) = Keeps operation.Scatter i.control rule.Address rule.Dword (channel_stride register_size i.control.exec)
KeepsFor register_size (instruction.RawSend i) = λ _. ⊥

-- past the tests of three operands
past_three : (P : Plan → Type 0) (a b c : ℕ) (d e f : Detail) (next : Plan) → (a ≡ 0 → b ≡ 0 → c ≡ 0 → next.number ≡ 0 → P next) → (tested a d (tested b e (tested c f next))).number ≡ 0 → P (tested a d (tested b e (tested c f next)))
past_three P a b c d e f next h = accepted-then P a d _ (λ x. accepted-then P b e _ (λ y. accepted-then P c f next (h x y)))

module _ (register_size : ℕ) (t : Variables) (bits : ℕ) where
  shl-keeps : (i : Shl) → exec_size i.control.exec ≤ 32 → (checked_shl register_size t bits i).number ≡ 0 → KeepsFor register_size (instruction.Shl i) (checked_shl register_size t bits i)
  unfolding checked_shl shl_dst shl_src0 shl_src1 shl_plan
  shl-keeps i few =
      past_three (KeepsFor register_size (instruction.Shl i)) (shl_dst register_size t i).number (shl_src0 register_size t i).number (shl_src1 register_size t i).number _ _ _ _ (λ dst src0 src1 _.
      record {
        operation = refl;
        control = refl;
        lanes = few;
        left = vector-sized rule.Shift register_size t role.Source i.control.exec i.source src0;
        right = vector-sized rule.Shift register_size t role.Source i.control.exec i.count src1;
        payload = vector-sized rule.Shift register_size t role.Destination i.control.exec i.destination dst;
        stride-is = refl;
      })

  gather-keeps : (part : Part) (i : Gather) → exec_size i.control.exec ≤ 32 → (checked_gather_operands register_size t bits part i).number ≡ 0 → KeepsFor register_size (instruction.Gather i) (checked_gather_operands register_size t bits part i)
  unfolding checked_gather_operands gather_offset gather_element_offset gather_dst gather_plan
  gather-keeps part i few =
      past_three (KeepsFor register_size (instruction.Gather i)) (gather_offset register_size t i).number (gather_element_offset t i).number (gather_dst t i).number _ _ _ _ (λ offset element dst _.
      record {
        operation = refl;
        control = refl;
        lanes = few;
        left = vector-sized rule.Offset register_size t role.Scalar i.control.exec i.offset offset;
        right = raw-sized rule.Offset t (elements_needed i.control.exec UD) i.element_offset element;
        payload = raw-sized rule.Dword t (elements_needed i.control.exec UD) i.destination dst;
        stride-is = refl;
      })

  scatter-keeps : (i : Scatter) → exec_size i.control.exec ≤ 32 → (checked_scatter register_size t bits i).number ≡ 0 → KeepsFor register_size (instruction.Scatter i) (checked_scatter register_size t bits i)
  unfolding checked_scatter scatter_address scatter_element_offset scatter_src scatter_plan
  scatter-keeps i few =
      past_three (KeepsFor register_size (instruction.Scatter i)) (scatter_address register_size t i).number (scatter_element_offset t i).number (scatter_src register_size t i).number _ _ _ _ (λ address element src _.
      record {
        operation = refl;
        control = refl;
        lanes = few;
        left = vector-sized rule.Address register_size t role.Scalar i.control.exec i.address address;
        right = raw-sized rule.Address t (elements_needed i.control.exec UQ) i.element_offset element;
        payload = raw-sized rule.Dword t (scatter_needed (channel_stride register_size i.control.exec) i.control.exec i.channels) i.source src;
        stride-is = refl;
      })

  send-keeps : (i : RawSend) → (checked_send register_size t i).number ≡ 0 → KeepsFor register_size (instruction.RawSend i) (checked_send register_size t i)
  unfolding checked_send
  send-keeps i = past_three (KeepsFor register_size (instruction.RawSend i)) _ _ _ _ _ _ _ (λ _ _ _ z. absurd (omega (arith, refusal-number 9 detail.None, z)))

module _ (register_size : ℕ) (t : Tables) where
  operands-keep : (bits : ℕ) (i : Instruction) → exec_size (control_of i).exec ≤ 32 → (checked_operands register_size t bits i).number ≡ 0 → KeepsFor register_size i (checked_operands register_size t bits i)
  unfolding checked_operands checked_gather control_of
  operands-keep bits (instruction.Shl i) few = shl-keeps register_size _ bits i few
  operands-keep bits (instruction.Gather i) few =
      cond_either (λ (p : Plan). p.number ≡ 0 → KeepsFor register_size (instruction.Gather i) p) (not (ltb i.access.surface (length t.surfaces.lengths)))
      (λ _ z. absurd (omega (arith, refusal-number 5 detail.None, z)))
      (λ _. gather-keeps register_size _ bits (surface_part t.surfaces i.access.surface) i few)
  operands-keep bits (instruction.Scatter i) few = scatter-keeps register_size _ bits i few
  operands-keep bits (instruction.RawSend i) few = send-keeps register_size _ bits i

  pub plan-keeps : (i : Instruction) → (checked register_size t i).number ≡ 0 → KeepsFor register_size i (checked register_size t i)
  unfolding checked
  plan-keeps i =
      let p = predicate_for t.predicates (control_of i) in
      accepted-then (KeepsFor register_size i) (control_refusal p (control_of i)) _ _
      (λ e. operands-keep _ i (omega (arith, lanes_fit p (control_of i) e)))
