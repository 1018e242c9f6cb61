-- A step, by what stands decoded at its position: a refusal, or the effect of the instruction's plan.
use Prim.Native.Nat.{ℕ}
use Rattle.refusal.specs.declared.Detail.TheVariants as detail
use Rattle.cells.specs.Effect.{Effect, refused}
use Rattle.reader.specs.Reply.{Reply, Read, on_reply}
use Rattle.decoder.specs.declared.Instruction.{Instruction}
use Rattle.plan.specs.Plan.{Plan}
use Rattle.plan.specs.Checked.{checked}
use Rattle.step.specs.State.{Setup, register_bytes}
use Rattle.step.specs.Step.{Stepped}

abbrev pub step_of : Setup → (Plan → Effect) → ℕ → Reply (Read Instruction) → Stepped
step_of x effect at d = on_reply d (λ n. record { next = at; effect = refused n detail.None }) (λ i. record { next = i.next; effect = effect (checked (register_bytes x) x.tables i.value) })
