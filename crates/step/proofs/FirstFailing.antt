-- A step's number is that of the first test that its instruction fails.
use Prim.Native.Nat.{ℕ, zero, suc}
use mathlib.Core.Path.{◌≡◌, refl, ap, ◌∙◌}
use native.Mathlib.Omega.{arith}
use Rattle.cells.specs.Effect.{Effect}
use Rattle.reader.specs.Reply as reply
use Rattle.reader.specs.Reply.{Reply, Read, on_reply}
use Rattle.decoder.specs.declared.Instruction.{Instruction}
use Rattle.decoder.specs.declared.Instruction.TheVariants as instruction
use Rattle.decoder.specs.Decoding.{instruction_at}
use Rattle.plan.specs.Plan.{Plan}
use Rattle.plan.specs.Operation.{Operation}
use Rattle.plan.specs.Checked.{checked}
use Rattle.plan.proofs.InstructionLaws.{plan-keeps}
use Rattle.shl_effect.proofs.Refusal.{shl-number}
use Rattle.gather_effect.proofs.Refusal.{gather-number}
use Rattle.scatter_effect.proofs.FirstTest.{scatter-number}
use Rattle.step.specs.State.{Setup, State, register_bytes}
use Rattle.step.specs.Step.{acted, plan_effect, step_at}
use Rattle.step.specs.FirstFailing.{first_of, some_doubtful, some_pair, data_tests, first_failing}
use Rattle.step.proofs.StepOf.{step_of}
use Rattle.step.proofs.AcceptedLaws.{plan-refuses, plan-passes}

module _ (x : Setup) (s : State) where
  -- the plan of an instruction
  abbrev planned : Instruction → Plan
  planned i = checked (register_bytes x) x.tables i

  acted-as : (o : Operation) (p : Plan) → p.operation ≡ o → (acted x.constants p.operation p s).number ≡ (acted x.constants o p s).number
  acted-as o p = ap (λ (q : Operation). (acted x.constants q p s).number)

  -- an accepted plan acts as its instruction
  acted-number : (i : Instruction) → (planned i).number ≡ 0 → (acted x.constants (planned i).operation (planned i) s).number ≡ data_tests x i (planned i) s
  unfolding acted data_tests some_doubtful some_pair
  acted-number (instruction.Shl i) z = acted-as _ _ (plan-keeps (register_bytes x) x.tables (instruction.Shl i) z).operation ∙ shl-number _ _ _
  acted-number (instruction.Gather i) z = acted-as _ _ (plan-keeps (register_bytes x) x.tables (instruction.Gather i) z).operation ∙ gather-number _ _ _ _
  acted-number (instruction.Scatter i) z = acted-as _ _ (plan-keeps (register_bytes x) x.tables (instruction.Scatter i) z).operation ∙ scatter-number _ _ _ _
  acted-number (instruction.RawSend i) z = absurd (plan-keeps (register_bytes x) x.tables (instruction.RawSend i) z)

  plan-number : (i : Instruction) → (plan_effect x.constants (planned i) s).number ≡ first_of (planned i).number (data_tests x i (planned i) s)
  unfolding plan_effect
  plan-number i = told (planned i).number refl
    where
      told : (n : ℕ) → (planned i).number ≡ n → (plan_effect x.constants (planned i) s).number ≡ first_of n (data_tests x i (planned i) s)
      told zero e = ap (λ (f : Effect). f.number) (plan-passes (planned i) _ e) ∙ acted-number i e
      told (suc n) e = ap (λ (f : Effect). f.number) (plan-refuses (planned i) _ (omega (arith, e))) ∙ e

  pub step-number : (at : ℕ) → (step_at x at s).effect.number ≡ first_failing x at s
  unfolding step_at first_failing
  step-number at = told (instruction_at x.kernel at)
    where
      told : (d : Reply (Read Instruction)) → (step_of x (λ (p : Plan). plan_effect x.constants p s) at d).effect.number
          ≡ on_reply d (λ n. n) (λ i. first_of (planned i.value).number (data_tests x i.value (planned i.value) s))
      told (reply.refused n) = refl
      told (reply.done i) = plan-number i.value
