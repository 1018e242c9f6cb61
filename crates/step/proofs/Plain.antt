-- One step from a state with marks and from the same bytes with no marks: unless the first is refused by 10, the same number and next
-- position, the same bytes after it, and no marks in the second.
use mathlib.Core.Path.{◌≡◌, refl}
use mathlib.Core.Logic.{◌≢◌}
use mathlib.Core.Bool.{not}
use Prim.Native.Nat.{ℕ}
use lib.Dec.{eqb}
use lib.ListN.{length}
use Rattle.cells.proofs.Related.{none}
use Rattle.cells.proofs.Plain.{SameBytes, PlainEffects, plain-unless}
use Rattle.reader.specs.Reply as reply
use Rattle.reader.specs.Reply.{Reply, Read}
use Rattle.decoder.specs.declared.Instruction.{Instruction}
use Rattle.decoder.specs.Decoding.{instruction_at}
use Rattle.plan.specs.Plan.{Plan}
use Rattle.plan.specs.Operation.{Operation}
use Rattle.plan.specs.Operation as operation
use Rattle.plan.specs.Checked.{checked}
use Rattle.staging.specs.Lanes.{lanes_on}
use Rattle.shl_effect.proofs.Plain.{shl_plain}
use Rattle.gather_effect.proofs.Plain.{gather-plain}
use Rattle.scatter_effect.specs.Scatter.{scatter_effect}
use Rattle.scatter_effect.proofs.Plain.{scatter-plain}
use Rattle.step.specs.State.{Setup, State, register_bytes}
use Rattle.step.specs.Step.{acted, plan_effect, Stepped, step_at}
use Rattle.step.proofs.StepOf.{step_of}
use Rattle.step.proofs.SameStep.{SameStep, RelatedStates, alike-steps, refused-steps}

abbrev pub PlainStates : State → State → Type 0
PlainStates = RelatedStates SameBytes

module _ (x : Setup) (s u : State) (r : PlainStates s u) where
  scattered : (p : Plan) (n m : ℕ) → m ≡ n → (scatter_effect (record { base = x.constants.base; length = n }) p (lanes_on x.constants.mask p) s.registers).number ≢ 10 → PlainEffects (scatter_effect (record { base = x.constants.base; length = n }) p (lanes_on x.constants.mask p) s.registers) (scatter_effect (record { base = x.constants.base; length = m }) p (lanes_on x.constants.mask p) u.registers)
  scattered p n m e sure = rw e (scatter-plain s.registers u.registers r.registers p (record { base = x.constants.base; length = n }) (lanes_on x.constants.mask p) sure)

  acted-plain : (o : Operation) (p : Plan) → (acted x.constants o p s).number ≢ 10 → PlainEffects (acted x.constants o p s) (acted x.constants o p u)
  unfolding acted
  acted-plain operation.Shl p sure = shl_plain p (lanes_on x.constants.mask p) s.registers u.registers r.registers
  acted-plain operation.Gather p sure = gather-plain s.registers u.registers s.surfaces u.surfaces r.registers r.surfaces p (lanes_on x.constants.mask p)
  acted-plain operation.Scatter p sure = scattered p (length s.memory.bytes) (length u.memory.bytes) r.memory.bytes' sure
  acted-plain operation.Refused p sure = record { number = refl; detail = refl; registers = none; memory = none }

  plan-plain : (p : Plan) → (plan_effect x.constants p s).number ≢ 10 → PlainEffects (plan_effect x.constants p s) (plan_effect x.constants p u)
  unfolding plan_effect
  plan-plain p sure = plain-unless (not (eqb p.number 0)) p.number 10 p.detail _ _ (acted-plain p.operation p) sure

  abbrev stepped : State → ℕ → Reply (Read Instruction) → Stepped
  stepped v at = step_of x (λ (p : Plan). plan_effect x.constants p v) at

  decoded-plain : (at : ℕ) (d : Reply (Read Instruction)) → (stepped s at d).effect.number ≢ 10 → SameStep PlainStates (stepped s at d) (stepped u at d) s u
  decoded-plain at (reply.refused n) sure = refused-steps SameBytes s u r at n
  decoded-plain at (reply.done i) sure = alike-steps SameBytes s u r i.next _ _ (plan-plain (checked (register_bytes x) x.tables i.value) sure)

pub step-plain : (x : Setup) (at : ℕ) (s u : State) → PlainStates s u → (step_at x at s).effect.number ≢ 10 → SameStep PlainStates (step_at x at s) (step_at x at u) s u
unfolding step_at
step-plain x at s u r = decoded-plain x s u r at (instruction_at x.kernel at)
