-- What a step keeps: all lengths, and the state where it is refused.
use mathlib.Core.Path.{◌≡◌}
use mathlib.Core.Logic.{◌≢◌}
use mathlib.Core.Bool.{not}
use Prim.Native.Nat.{ℕ}
use lib.ListN.{length}
use lib.Dec.{eqb}
use Rattle.refusal.specs.declared.Detail.TheVariants as detail
use Rattle.cells.specs.Effect.{Effect}
use Rattle.cells.proofs.WriteLaws.{bytes-kept, taint-kept}
use Rattle.cells.proofs.RefusalLaws.{WritesOnlyWhenDone, refused-writes, unless-writes}
use Rattle.reader.specs.Reply as reply
use Rattle.reader.specs.Reply.{Reply, Read}
use Rattle.decoder.specs.declared.Instruction.{Instruction}
use Rattle.decoder.specs.Decoding.{instruction_at}
use Rattle.plan.specs.Plan.{Plan}
use Rattle.plan.specs.Operation.{Operation}
use Rattle.plan.specs.Operation as operation
use Rattle.plan.specs.Checked.{checked}
use Rattle.shl_effect.proofs.Refusal.{shl-writes}
use Rattle.gather_effect.proofs.Refusal.{gather-writes}
use Rattle.scatter_effect.proofs.Refusal.{scatter-writes}
use Rattle.step.specs.State.{Setup, State, register_bytes, lengths_of}
use Rattle.step.specs.Step.{acted, plan_effect, step_at, after}
use Rattle.step.proofs.StepOf.{step_of}
use Rattle.step.proofs.Unwritten.{unwritten}

pub after-lengths : (x : Setup) (e : Effect) (s : State) → lengths_of x (after e s) ≡ lengths_of x s
after-lengths x e s =
    λ i.
    record {
      kernel = length x.kernel;
      registers = bytes-kept e.registers s.registers i;
      surfaces = length s.surfaces.bytes;
      memory = bytes-kept e.memory s.memory i;
      base = x.constants.base;
      register_size = x.constants.register_size;
      taint = record {
        registers = taint-kept e.registers s.registers i;
        surfaces = length s.surfaces.taint;
        memory = taint-kept e.memory s.memory i;
      };
    }

module _ (x : Setup) (s : State) where
  acted-writes : (o : Operation) (p : Plan) → WritesOnlyWhenDone (acted x.constants o p s)
  unfolding acted
  acted-writes operation.Shl p = shl-writes p _ s.registers
  acted-writes operation.Gather p = gather-writes p _ s.registers s.surfaces
  acted-writes operation.Scatter p = scatter-writes _ p _ s.registers
  acted-writes operation.Refused p = refused-writes 9 detail.None

  plan-writes : (p : Plan) → WritesOnlyWhenDone (plan_effect x.constants p s)
  unfolding plan_effect
  plan-writes p = unless-writes (not (eqb p.number 0)) p.number p.detail _ (acted-writes p.operation p)

  decoded-writes : (at : ℕ) (d : Reply (Read Instruction)) → WritesOnlyWhenDone (step_of x (λ (p : Plan). plan_effect x.constants p s) at d).effect
  decoded-writes at (reply.refused n) = refused-writes n detail.None
  decoded-writes at (reply.done i) = plan-writes (checked (register_bytes x) x.tables i.value)

  -- every step whose number is not 0 writes nothing
  pub step-writes : (at : ℕ) → WritesOnlyWhenDone (step_at x at s).effect
  unfolding step_at
  step-writes at = decoded-writes at (instruction_at x.kernel at)

pub refused-step-keeps : (x : Setup) (at : ℕ) (s : State) → (step_at x at s).effect.number ≢ 0 → after (step_at x at s).effect s ≡ s
refused-step-keeps x at s h =
    let w = step-writes x s at in
    λ i.
    record {
      registers = unwritten _ s.registers (w.registers h) i;
      surfaces = s.surfaces;
      memory = unwritten _ s.memory (w.memory h) i;
    }
