-- What an accepted plan promises the executors, where tables and lengths are good: every lane's element lies in the register file, SHL's
-- destination elements lie apart, a scatter's dwords lie in the file, a gather's surface lies in the surface buffer.
use mathlib.Core.Path.{◌≡◌}
use mathlib.Core.Bool.{true, not}
use Prim.Native.Nat.{ℕ, ◌+◌, ◌*◌, ◌≤◌}
use native.Mathlib.Omega.{arith}
use lib.Dec.{ltb}
use lib.ListN.{length}
use borrow.Author.Tests.{ltb-true, not-false}
use Rattle.element_types.specs.Types.{UD, UQ}
use Rattle.element_types.proofs.Sizes.{sizes}
use Rattle.lengths.specs.declared.Lengths.{Lengths}
use Rattle.tables.specs.Tables.{Tables, tables_good}
use Rattle.tables.proofs.Laws.{placed, surface-inside}
use Rattle.exec_byte.specs.Exec.{exec_size, exec_offset}
use Rattle.refusal.specs.declared.Detail.TheVariants as detail
use Rattle.decoder.specs.declared.Shl.{Shl}
use Rattle.decoder.specs.declared.Gather.{Gather}
use Rattle.decoder.specs.declared.Scatter.{Scatter}
use Rattle.decoder.specs.declared.RawSend.{RawSend}
use Rattle.decoder.specs.declared.Instruction.{Instruction}
use Rattle.decoder.specs.declared.Instruction.TheVariants as instruction
use Rattle.region_rules.specs.declared.Role.TheVariants as role
use Rattle.operands.specs.declared.TypeRule.TheVariants as rule
use Rattle.tables.specs.Variables.{Variables}
use Rattle.regions.proofs.ReachLaws.{cond_either}
use Rattle.operands.proofs.LocatedLaws.{AllPlaced, Accepted, Consecutive, Apart, vector-accepted, raw-accepted, raw-whole, destination-apart}
use Rattle.plan.specs.Operation.{Operation}
use Rattle.plan.specs.Operation as operation
use Rattle.plan.specs.Part.{Part}
use Rattle.plan.specs.Plan.{Plan}
use Rattle.controls.specs.Control.{predicate_for, control_refusal, bits_named}
use Rattle.plan.specs.Control.{control_of}
use Rattle.payloads.specs.Needed.{elements_needed, channel_stride, scatter_needed}
use Rattle.plan.specs.Plans.{shl_plan, gather_plan, scatter_plan}
use Rattle.plan.specs.Checked.{shl_dst, shl_src0, shl_src1, checked_shl, gather_offset, gather_element_offset, gather_dst, checked_gather_operands, surface_part, checked_gather, scatter_address, scatter_element_offset, scatter_src, checked_scatter, send_desc, send_src, send_dst, checked_send, checked_operands, checked}
use Rattle.controls.proofs.PassedLaws.{lanes_fit}
use Rattle.plan.proofs.TestLaws.{refusal-number, accepted-then}

-- the lanes of a plan
abbrev pub lanes_of : Plan → ℕ
lanes_of p = exec_size p.control.exec

pub record ShlSound (registers : ℕ) (p : Plan) : Type 0 where
  pub left : Accepted registers (lanes_of p) rule.Shift p.left
  pub right : Accepted registers (lanes_of p) rule.Shift p.right
  pub payload : Accepted registers (lanes_of p) rule.Shift p.payload
  pub apart : Apart p.payload

pub record GatherSound (registers surfaces : ℕ) (p : Plan) : Type 0 where
  pub left : Accepted registers (lanes_of p) rule.Offset p.left
  pub right : Accepted registers (lanes_of p) rule.Offset p.right
  pub payload : Accepted registers (lanes_of p) rule.Dword p.payload
  pub offsets : Consecutive registers (elements_needed p.control.exec UD) p.right
  pub dwords : Consecutive registers (elements_needed p.control.exec UD) p.payload
  pub surface : p.start + p.length ≤ surfaces

pub record ScatterSound (registers : ℕ) (p : Plan) : Type 0 where
  pub left : Accepted registers (lanes_of p) rule.Address p.left
  pub right : Accepted registers (lanes_of p) rule.Address p.right
  pub payload : Accepted registers (lanes_of p) rule.Dword p.payload
  pub offsets : Consecutive registers (elements_needed p.control.exec UQ) p.right
  pub dwords : Consecutive registers (scatter_needed p.stride p.control.exec p.channels) p.payload

-- no refused plan is accepted
abbrev pub SoundFor : Operation → ℕ → ℕ → Plan → Type 0
SoundFor operation.Shl registers surfaces p = ShlSound registers p
SoundFor operation.Gather registers surfaces p = GatherSound registers surfaces p
SoundFor operation.Scatter registers surfaces p = ScatterSound registers p
SoundFor operation.Refused registers surfaces p = ⊥

pub record Sound (registers surfaces : ℕ) (p : Plan) : Type 0 where
  pub lanes : exec_offset p.control.exec + exec_size p.control.exec ≤ 32
  pub operands : SoundFor p.operation registers surfaces p

-- as many bytes as the lanes' elements have
dwords-room : (exec size : ℕ) → size ≡ 4 → exec_size exec * size ≤ elements_needed exec UD
unfolding elements_needed
dwords-room exec size e = rw (e, sizes.ud) (omega arith)

quads-room : (exec size : ℕ) → size ≡ 8 → exec_size exec * size ≤ elements_needed exec UQ
unfolding elements_needed
quads-room exec size e = rw (e, sizes.uq) (omega arith)

scatter-room : (stride exec channels size : ℕ) → size ≡ 4 → exec_size exec * size ≤ scatter_needed stride exec channels
unfolding scatter_needed
scatter-room stride exec channels size e = rw (e, sizes.ud) (omega arith)

module _ (register_size registers surfaces : ℕ) (t : Variables) (all : AllPlaced register_size registers t) where
  abbrev Fine : Plan → Type 0
  Fine p = Sound registers surfaces p

  shl-sound : (bits : ℕ) (i : Shl) → exec_offset i.control.exec + exec_size i.control.exec ≤ 32 → (checked_shl register_size t bits i).number ≡ 0 → Fine (checked_shl register_size t bits i)
  unfolding checked_shl shl_dst shl_src0 shl_src1 shl_plan
  shl-sound bits i fit =
      let exec = i.control.exec in
      let few : exec_size exec ≤ 32 = omega arith in
      accepted-then Fine (shl_dst register_size t i).number _ _ (λ dst.
      accepted-then Fine (shl_src0 register_size t i).number _ _ (λ src0.
      accepted-then Fine (shl_src1 register_size t i).number _ _ (λ src1 _.
      record {
        lanes = fit;
        operands = record {
          left = vector-accepted register_size registers t all role.Source rule.Shift exec i.source few src0;
          right = vector-accepted register_size registers t all role.Source rule.Shift exec i.count few src1;
          payload = vector-accepted register_size registers t all role.Destination rule.Shift exec i.destination few dst;
          apart = destination-apart register_size t rule.Shift exec i.destination dst;
        };
      })))

  gather-operands-sound : (bits : ℕ) (part : Part) (i : Gather) → exec_offset i.control.exec + exec_size i.control.exec ≤ 32 → part.start + part.length ≤ surfaces
      → (checked_gather_operands register_size t bits part i).number ≡ 0 → Fine (checked_gather_operands register_size t bits part i)
  unfolding checked_gather_operands gather_offset gather_element_offset gather_dst gather_plan
  gather-operands-sound bits part i fit surface =
      let exec = i.control.exec in
      let few : exec_size exec ≤ 32 = omega arith in
      let needed = elements_needed exec UD in
      accepted-then Fine (gather_offset register_size t i).number _ _ (λ offset.
      accepted-then Fine (gather_element_offset t i).number _ _ (λ element.
      accepted-then Fine (gather_dst t i).number _ _ (λ dst _.
      record {
        lanes = fit;
        operands = record {
          left = vector-accepted register_size registers t all role.Scalar rule.Offset exec i.offset few offset;
          right = raw-accepted register_size registers t all rule.Offset (exec_size exec) needed i.element_offset few (dwords-room exec) element;
          payload = raw-accepted register_size registers t all rule.Dword (exec_size exec) needed i.destination few (dwords-room exec) dst;
          offsets = raw-whole register_size registers t all rule.Offset needed i.element_offset element;
          dwords = raw-whole register_size registers t all rule.Dword needed i.destination dst;
          surface = surface;
        };
      })))

  scatter-sound : (bits : ℕ) (i : Scatter) → exec_offset i.control.exec + exec_size i.control.exec ≤ 32 → (checked_scatter register_size t bits i).number ≡ 0 → Fine (checked_scatter register_size t bits i)
  unfolding checked_scatter scatter_address scatter_element_offset scatter_src scatter_plan
  scatter-sound bits i fit =
      let exec = i.control.exec in
      let few : exec_size exec ≤ 32 = omega arith in
      let needed = scatter_needed (channel_stride register_size exec) exec i.channels in
      accepted-then Fine (scatter_address register_size t i).number _ _ (λ address.
      accepted-then Fine (scatter_element_offset t i).number _ _ (λ element.
      accepted-then Fine (scatter_src register_size t i).number _ _ (λ src _.
      record {
        lanes = fit;
        operands = record {
          left = vector-accepted register_size registers t all role.Scalar rule.Address exec i.address few address;
          right = raw-accepted register_size registers t all rule.Address (exec_size exec) (elements_needed exec UQ) i.element_offset few (quads-room exec) element;
          payload = raw-accepted register_size registers t all rule.Dword (exec_size exec) needed i.source few (scatter-room (channel_stride register_size exec) exec i.channels) src;
          offsets = raw-whole register_size registers t all rule.Address (elements_needed exec UQ) i.element_offset element;
          dwords = raw-whole register_size registers t all rule.Dword needed i.source src;
        };
      })))

  send-never : (i : RawSend) → (checked_send register_size t i).number ≡ 0 → Fine (checked_send register_size t i)
  unfolding checked_send
  send-never i =
      accepted-then Fine (send_desc register_size t i).number _ _ (λ _.
      accepted-then Fine (send_src register_size t i).number _ _ (λ _.
      accepted-then Fine (send_dst register_size t i).number _ _ (λ _ z.
      absurd (omega (arith, refusal-number 9 detail.None, z)))))

module _ (l : Lengths) (t : Tables) (good : tables_good l t ≡ true) where
  gather-sound : (bits : ℕ) (i : Gather) → exec_offset i.control.exec + exec_size i.control.exec ≤ 32
      → (checked_gather l.register_size t.variables t.surfaces bits i).number ≡ 0 → Sound l.registers l.surfaces (checked_gather l.register_size t.variables t.surfaces bits i)
  unfolding checked_gather surface_part
  gather-sound bits i fit =
      let index = i.access.surface in
      cond_either (λ (p : Plan). p.number ≡ 0 → Sound l.registers l.surfaces p) (not (ltb index (length t.surfaces.lengths)))
      (λ _ z. absurd (omega (arith, refusal-number 5 detail.None, z)))
      (λ e. gather-operands-sound l.register_size l.registers l.surfaces t.variables (placed l t good) bits (surface_part t.surfaces index) i fit
      (surface-inside l t good index (ltb-true _ _ (not-false _ e))))

  operands-sound : (bits : ℕ) (i : Instruction) → exec_offset (control_of i).exec + exec_size (control_of i).exec ≤ 32
      → (checked_operands l.register_size t bits i).number ≡ 0 → Sound l.registers l.surfaces (checked_operands l.register_size t bits i)
  unfolding checked_operands control_of
  operands-sound bits (instruction.Shl i) fit = shl-sound l.register_size l.registers l.surfaces t.variables (placed l t good) bits i fit
  operands-sound bits (instruction.Gather i) fit = gather-sound bits i fit
  operands-sound bits (instruction.Scatter i) fit = scatter-sound l.register_size l.registers l.surfaces t.variables (placed l t good) bits i fit
  operands-sound bits (instruction.RawSend i) fit = send-never l.register_size l.registers l.surfaces t.variables (placed l t good) i

  pub plan-sound : (i : Instruction) → (checked l.register_size t i).number ≡ 0 → Sound l.registers l.surfaces (checked l.register_size t i)
  unfolding checked
  plan-sound i =
      let p = predicate_for t.predicates (control_of i) in
      accepted-then (Sound l.registers l.surfaces) (control_refusal p (control_of i)) _ _
      (λ e. operands-sound (bits_named p (control_of i).pred) i (lanes_fit p (control_of i) e))
