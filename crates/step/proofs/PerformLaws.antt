-- What performing a plan that fits leaves: what the executor of its operation left.
use mathlib.Core.Path.{◌≡◌, refl, sym, ap, subst, ◌∙◌}
use mathlib.Core.Bool.{true}
use mathlib.Core.List.{[]}
use Prim.Native.Nat.{◌≤◌}
use native.Mathlib.Omega.{arith}
use lib.ListN.{length}
use Rattle.std.specs.Prelude.{Result}
use Rattle.refusal.specs.declared.Detail.TheVariants as detail
use Rattle.refusal.specs.declared.Refusal.{Refusal}
use Rattle.refusal.specs.Numbers.{number_given, detail_given}
use Rattle.cells.specs.Buffer.{Buffer}
use Rattle.cells.specs.Writes.{written_all}
use Rattle.cells.specs.Effect.{Effect, refused}
use Rattle.plan.specs.declared.Plan as code
use Rattle.plan.specs.declared.Operation.TheVariants as left
use Rattle.plan.specs.Plan.{Plan}
use Rattle.plan.specs.Planned.{plan_of, operation_of}
use Rattle.plan.specs.Operation.{Operation}
use Rattle.plan.specs.Operation as operation
use Rattle.staging.specs.Lanes.{lanes_on}
use Rattle.shl.specs.Mirror.Guarded.{shl_guarded}
use Rattle.shl.proofs.GuardLaws as shl
use Rattle.shl_effect.proofs.Refusal.{shl-spares-memory}
use Rattle.gather.specs.Mirror.Guarded.{gather_guarded}
use Rattle.gather.proofs.GuardLaws as gather
use Rattle.gather_effect.proofs.Refusal.{gather-spares-memory}
use Rattle.scatter_effect.specs.Scatter.{Window}
use Rattle.scatter.specs.Mirror.Guarded.{scatter_guarded}
use Rattle.scatter.proofs.GuardLaws as scatter
use Rattle.scatter_effect.proofs.Refusal.{scatter-spares-registers}
use Rattle.step.specs.declared.Constants.{Constants}
use Rattle.step.specs.State.{State}
use Rattle.step.specs.Step.{acted, plan_effect, after}
use Rattle.step.specs.Mirror.Fits.{fits_for, Fits}
use Rattle.step.proofs.Unwritten.{unwritten}
use Rattle.step.proofs.AcceptedLaws.{plan-passes}

module _ (k : Constants) (q : code.Plan) (s : State) (fits : Fits (plan_of q)) where
  abbrev p : Plan
  p = plan_of q

  -- an answer and a state that are those of the plan's effect
  abbrev Performs : Result (Unit {0}) Refusal → State → Type 0
  Performs r u = ((number_given r ≡ (plan_effect k p s).number) × (detail_given r ≡ (plan_effect k p s).detail)) × (u ≡ after (plan_effect k p s) s)

  -- an answer and two buffers that are those of an effect, which is the plan's
  performs : (e : Effect) (r : Result (Unit {0}) Refusal) (b m : Buffer) → e ≡ plan_effect k p s → number_given r ≡ e.number → detail_given r ≡ e.detail → b ≡ written_all e.registers s.registers → m ≡ written_all e.memory s.memory
      → Performs r (record { registers = b; surfaces = s.surfaces; memory = m })
  performs e r b m is number detail registers memory =
      ((number ∙ ap (λ (x : Effect). x.number) is, detail ∙ ap (λ (x : Effect). x.detail) is), (λ i. record { registers = registers i; surfaces = s.surfaces; memory = memory i }) ∙ ap (λ (x : Effect). after x s) is)

  -- an accepted plan acts, and its operation's guard lets it pass
  acts : (o : Operation) → p.operation ≡ o → plan_effect k p s ≡ acted k o p s
  unfolding plan_effect
  acts o is = plan-passes p _ refl ∙ ap (λ (q : Operation). acted k q p s) is

  fit : (o : Operation) → p.operation ≡ o → fits_for o p ≡ true
  fit o is = subst (λ (q : Operation). fits_for q p ≡ true) is (fits.when-accepted refl)

  pub shl-performs : (r : Result (Unit {0}) Refusal) (b : Buffer) → q.operation ≡ left.Shl → (number_given r ≡ (shl_guarded k.mask p s.registers).number) × (detail_given r ≡ (shl_guarded k.mask p s.registers).detail) → b ≡ written_all (shl_guarded k.mask p s.registers).registers s.registers
      → Performs r (record { registers = b; surfaces = s.surfaces; memory = s.memory })
  unfolding acted fits_for
  shl-performs r b is made written =
      let o : p.operation ≡ operation.Shl = ap operation_of is in
      let g = shl.guard-passes k.mask p s.registers (fit _ o) in
      performs (shl_guarded k.mask p s.registers) r b s.memory (g ∙ sym (acts _ o)) made.0 made.1 written
      (sym (unwritten _ _ (ap (λ (e : Effect). e.memory) g ∙ shl-spares-memory p (lanes_on k.mask p) s.registers)))

  pub gather-performs : (r : Result (Unit {0}) Refusal) (b : Buffer) → q.operation ≡ left.Gather → (number_given r ≡ (gather_guarded k.mask p s.registers s.surfaces).number) × (detail_given r ≡ (gather_guarded k.mask p s.registers s.surfaces).detail) → b ≡ written_all (gather_guarded k.mask p s.registers s.surfaces).registers s.registers
      → Performs r (record { registers = b; surfaces = s.surfaces; memory = s.memory })
  unfolding acted fits_for
  gather-performs r b is made written =
      let o : p.operation ≡ operation.Gather = ap operation_of is in
      let g = gather.guard-passes k.mask p s.registers s.surfaces (fit _ o) in
      performs (gather_guarded k.mask p s.registers s.surfaces) r b s.memory (g ∙ sym (acts _ o)) made.0 made.1 written
      (sym (unwritten _ _ (ap (λ (e : Effect). e.memory) g ∙ gather-spares-memory p (lanes_on k.mask p) s.registers s.surfaces)))

  abbrev window : Window
  window = record { base = k.base; length = length s.memory.bytes }

  -- the scatter's status and writes, by the registers that it saw
  abbrev Scattered : Result (Unit {0}) Refusal → Buffer → Buffer → Type 0
  Scattered r m b = (number_given r ≡ (scatter_guarded window k.mask p b).number) × (detail_given r ≡ (scatter_guarded window k.mask p b).detail) × (m ≡ written_all (scatter_guarded window k.mask p b).memory s.memory)

  pub scatter-performs : (r : Result (Unit {0}) Refusal) (m b : Buffer) → b ≡ s.registers → q.operation ≡ left.Scatter → Scattered r m b
      → Performs r (record { registers = s.registers; surfaces = s.surfaces; memory = m })
  unfolding acted fits_for
  scatter-performs r m b seen is made =
      let o : p.operation ≡ operation.Scatter = ap operation_of is in
      let g = scatter.guard-passes window k.mask p s.registers (fit _ o) in
      let done : Scattered r m s.registers = subst (Scattered r m) seen made in
      performs (scatter_guarded window k.mask p s.registers) r s.registers m (g ∙ sym (acts _ o)) done.0 done.1
      (sym (unwritten _ _ (ap (λ (e : Effect). e.registers) g ∙ scatter-spares-registers window p (lanes_on k.mask p) s.registers)))
      done.2

-- an accepted plan of no operation is refused with 9, and nothing is written
pub none-performs : (k : Constants) (p : Plan) (s : State) → Fits p → p.number ≤ 0 → p.operation ≡ operation.Refused →
    (9 ≡ (plan_effect k p s).number) × (detail.None ≡ (plan_effect k p s).detail) × (s ≡ after (plan_effect k p s) s)
unfolding plan_effect acted
none-performs k p s fits accepted is =
    let e : plan_effect k p s ≡ refused 9 detail.None = plan-passes p _ (omega arith) ∙ ap (λ (o : Operation). acted k o p s) is in
    (sym (ap (λ (x : Effect). x.number) e), sym (ap (λ (x : Effect). x.detail) e), sym (ap (λ (x : Effect). after x s) e ∙ (λ i. record { registers = unwritten [] s.registers refl i; surfaces = s.surfaces; memory = unwritten [] s.memory refl i })))
