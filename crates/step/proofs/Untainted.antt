-- One step from two states with equal marks and equal untainted bytes: the same number and next position, and such states after it.
use mathlib.Core.Path.{◌≡◌, refl}
use mathlib.Core.Bool.{not}
use Prim.Native.Nat.{ℕ}
use lib.Dec.{eqb}
use lib.ListN.{length}
use Rattle.cells.proofs.Related.{none}
use Rattle.cells.proofs.Untainted.{SameUntainted, AlikeEffects, unless-alike}
use Rattle.reader.specs.Reply as reply
use Rattle.reader.specs.Reply.{Reply, Read}
use Rattle.decoder.specs.declared.Instruction.{Instruction}
use Rattle.decoder.specs.Decoding.{instruction_at}
use Rattle.plan.specs.Plan.{Plan}
use Rattle.plan.specs.Operation.{Operation}
use Rattle.plan.specs.Operation as operation
use Rattle.plan.specs.Checked.{checked}
use Rattle.staging.specs.Lanes.{lanes_on}
use Rattle.shl_effect.proofs.Untainted.{shl-alike}
use Rattle.gather_effect.proofs.Untainted.{gather-alike}
use Rattle.scatter_effect.specs.Scatter.{scatter_effect}
use Rattle.scatter_effect.proofs.Untainted.{scatter-alike}
use Rattle.step.specs.State.{Setup, State, register_bytes}
use Rattle.step.specs.Step.{acted, plan_effect, Stepped, step_at}
use Rattle.step.proofs.StepOf.{step_of}
use Rattle.step.proofs.SameStep.{SameStep, RelatedStates, alike-steps, refused-steps}

abbrev pub AgreeingStates : State → State → Type 0
AgreeingStates = RelatedStates SameUntainted

module _ (x : Setup) (s u : State) (r : AgreeingStates s u) where
  scattered : (p : Plan) (n m : ℕ) → m ≡ n → AlikeEffects (scatter_effect (record { base = x.constants.base; length = n }) p (lanes_on x.constants.mask p) s.registers) (scatter_effect (record { base = x.constants.base; length = m }) p (lanes_on x.constants.mask p) u.registers)
  scattered p n m e = rw e (scatter-alike s.registers u.registers r.registers p (record { base = x.constants.base; length = n }) (lanes_on x.constants.mask p))

  acted-alike : (o : Operation) (p : Plan) → AlikeEffects (acted x.constants o p s) (acted x.constants o p u)
  unfolding acted
  acted-alike operation.Shl p = shl-alike p (lanes_on x.constants.mask p) s.registers u.registers r.registers
  acted-alike operation.Gather p = gather-alike s.registers u.registers s.surfaces u.surfaces r.registers r.surfaces p (lanes_on x.constants.mask p)
  acted-alike operation.Scatter p = scattered p (length s.memory.bytes) (length u.memory.bytes) r.memory.bytes'
  acted-alike operation.Refused p = record { number = refl; detail = refl; registers = none; memory = none }

  plan-alike : (p : Plan) → AlikeEffects (plan_effect x.constants p s) (plan_effect x.constants p u)
  unfolding plan_effect
  plan-alike p = unless-alike (not (eqb p.number 0)) _ p.number _ _ _ _ refl refl (λ _. acted-alike p.operation p)

  abbrev stepped : State → ℕ → Reply (Read Instruction) → Stepped
  stepped v at = step_of x (λ (p : Plan). plan_effect x.constants p v) at

  decoded-same : (at : ℕ) (d : Reply (Read Instruction)) → SameStep AgreeingStates (stepped s at d) (stepped u at d) s u
  decoded-same at (reply.refused n) = refused-steps SameUntainted s u r at n
  decoded-same at (reply.done i) = alike-steps SameUntainted s u r i.next _ _ (plan-alike (checked (register_bytes x) x.tables i.value))

pub step_same : (x : Setup) (at : ℕ) (s u : State) → AgreeingStates s u → SameStep AgreeingStates (step_at x at s) (step_at x at u) s u
unfolding step_at
step_same x at s u r = decoded-same x s u r at (instruction_at x.kernel at)
