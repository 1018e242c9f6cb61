-- A step that is not refused goes forward, and not past the kernel's end.
use mathlib.Core.Path.{◌≡◌, refl}
use Prim.Native.Nat.{ℕ, ◌≤◌, ◌<◌}
use lib.ListN.{length}
use Rattle.little_endian.specs.LittleEndian.{Bytes}
use Rattle.reader.specs.Reply as reply
use Rattle.reader.specs.Reply.{Reply, Read}
use Rattle.decoder.specs.declared.Instruction.{Instruction}
use Rattle.decoder.specs.Decoding.{instruction_at}
use Rattle.decoder.proofs.DecodeEncode.{refusal-not-zero}
use Rattle.decoder.proofs.Laws.{accepted-within}
use Rattle.plan.specs.Plan.{Plan}
use Rattle.step.specs.State.{Setup, State}
use Rattle.step.specs.Step.{plan_effect, Stepped, step_at}
use Rattle.step.proofs.StepOf.{step_of}

abbrev pub Forward : ℕ → ℕ → ℕ → Type 0
Forward end at next = (at < next) × (next ≤ end)

-- what decoding accepts ends past its start and within the kernel, and a refusal's number is not 0
pub step-forward : (x : Setup) → Bytes x.kernel → (at : ℕ) (s : State) → (step_at x at s).effect.number ≡ 0 → Forward (length x.kernel) at (step_at x at s).next
unfolding step_at
step-forward x b at s e = told (instruction_at x.kernel at) refl e
  where
    stepped : Reply (Read Instruction) → Stepped
    stepped = step_of x (λ (p : Plan). plan_effect x.constants p s) at

    told : (d : Reply (Read Instruction)) → instruction_at x.kernel at ≡ d → (stepped d).effect.number ≡ 0 → Forward (length x.kernel) at (stepped d).next
    told (reply.refused n) q z = absurd (refusal-not-zero x.kernel at n b q z)
    told (reply.done i) q z = let w = accepted-within x.kernel at i.value i.next b q in (w.past, w.inside)
