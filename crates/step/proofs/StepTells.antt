-- A step tells what its number has to tell.
use mathlib.Core.Path.{◌≡◌, refl, sym, subst}
use Prim.Native.Nat.{ℕ, zero, suc}
use native.Mathlib.Omega.{arith}
use Rattle.cells.specs.Effect.{Effect}
use Rattle.reader.specs.Reply as reply
use Rattle.reader.specs.Reply.{Reply, Read}
use Rattle.decoder.specs.declared.Instruction.{Instruction}
use Rattle.decoder.specs.declared.Instruction.TheVariants as instruction
use Rattle.decoder.specs.Decoding.{instruction_at}
use Rattle.plan.specs.Plan.{Plan}
use Rattle.plan.specs.Operation.{Operation}
use Rattle.plan.specs.Checked.{checked}
use Rattle.plan.proofs.InstructionLaws.{plan-keeps}
use Rattle.plan.proofs.PlaceLaws.{plan-names}
use Rattle.shl_effect.specs.Shl.{shl_effect}
use Rattle.gather_effect.specs.Gather.{gather_effect}
use Rattle.scatter_effect.specs.Offending.{ScatterTells, done}
use Rattle.scatter_effect.proofs.FirstPair.{scatter-tells}
use Rattle.step.specs.State.{Setup, State, register_bytes}
use Rattle.step.specs.Step.{acted, plan_effect, step_at}
use Rattle.step.specs.FirstFailing.{window}
use Rattle.step.specs.Tells.{Tells, undecoded, tested, performed}
use Rattle.step.proofs.StepOf.{step_of}
use Rattle.step.proofs.AcceptedLaws.{plan-refuses, plan-passes}

module _ (x : Setup) (s : State) where
  abbrev planned : Instruction → Plan
  planned i = checked (register_bytes x) x.tables i

  -- what an accepted instruction's own tests tell
  abbrev Own : Instruction → Effect → Type 0
  Own i e = ScatterTells (window x s) x.constants.mask (planned i) s.registers.bytes e.number e.detail

  acts-as : (i : Instruction) (o : Operation) → (planned i).operation ≡ o → Own i (acted x.constants o (planned i) s) → Own i (acted x.constants (planned i).operation (planned i) s)
  acts-as i o is = subst (λ (q : Operation). Own i (acted x.constants q (planned i) s)) (sym is)

  pub own-tells : (i : Instruction) → (planned i).number ≡ 0 → Own i (acted x.constants (planned i).operation (planned i) s)
  unfolding acted shl_effect gather_effect
  own-tells (instruction.Shl i) z = acts-as (instruction.Shl i) _ (plan-keeps (register_bytes x) x.tables (instruction.Shl i) z).operation done
  own-tells (instruction.Gather i) z = acts-as (instruction.Gather i) _ (plan-keeps (register_bytes x) x.tables (instruction.Gather i) z).operation done
  own-tells (instruction.Scatter i) z =
      acts-as (instruction.Scatter i) _ (plan-keeps (register_bytes x) x.tables (instruction.Scatter i) z).operation (scatter-tells (window x s) x.constants.mask (planned (instruction.Scatter i)) s.registers)
  own-tells (instruction.RawSend i) z = absurd (plan-keeps (register_bytes x) x.tables (instruction.RawSend i) z)

  module _ (at : ℕ) where
    abbrev Told : Effect → Type 0
    Told e = Tells x at s e.number e.detail

    plan-tells : (i : Read Instruction) → instruction_at x.kernel at ≡ reply.done i → Told (plan_effect x.constants (planned i.value) s)
    unfolding plan_effect
    plan-tells i is = asked (planned i.value).number refl
      where
        asked : (n : ℕ) → (planned i.value).number ≡ n → Told (plan_effect x.constants (planned i.value) s)
        asked zero e = subst Told (sym (plan-passes (planned i.value) _ e)) (performed is e (own-tells i.value e))
        asked (suc n) e =
            subst Told (sym (plan-refuses (planned i.value) _ (omega (arith, e))))
            (subst (λ (k : ℕ). Tells x at s k (planned i.value).detail) (sym e) (tested is e (plan-names (register_bytes x) x.tables i.value)))

    pub step-tells : Told (step_at x at s).effect
    unfolding step_at
    step-tells = asked (instruction_at x.kernel at) refl
      where
        asked : (d : Reply (Read Instruction)) → instruction_at x.kernel at ≡ d → Told (step_of x (λ (p : Plan). plan_effect x.constants p s) at d).effect
        asked (reply.refused n) e = undecoded e
        asked (reply.done i) e = plan-tells i e
