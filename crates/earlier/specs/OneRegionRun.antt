-- The run with document 01's one rule of regions in the place of 20 to 25, whose numbers tell nothing.
use Rattle.std.specs.Prelude.{ℕ, zero, suc, cond, length}
use Rattle.refusal.specs.declared.Detail.TheVariants as detail
use Rattle.cells.specs.Effect.{Effect, refused}
use Rattle.reader.specs.Reply.{on_reply}
use Rattle.decoder.specs.declared.Instruction.{Instruction}
use Rattle.decoder.specs.Decoding.{instruction_at}
use Rattle.tables.specs.Tables.{tables_good}
use Rattle.plan.specs.Checked.{checked}
use Rattle.step.specs.State.{Setup, State, register_bytes, lengths_of}
use Rattle.step.specs.Step.{Stepped, acted}
use Rattle.run.specs.Run.{Outcome, stopped, run_from}
use Rattle.earlier.specs.OneRegionRule.{number_before, as_before}

-- an effect that tells nothing
abbrev pub untold : Effect → Effect
untold e = record { number = e.number; detail = detail.None; registers = e.registers; memory = e.memory }

-- an instruction that passes is performed as it is now: where its elements are does not depend on the numbers
abbrev pub effect_before : Setup → State → Instruction → ℕ → Effect
effect_before x s i zero = untold (acted x.constants (checked (register_bytes x) x.tables i).operation (checked (register_bytes x) x.tables i) s)
effect_before x s i (suc n) = refused (suc n) detail.None

unfoldable pub step_before : Setup → ℕ → State → Stepped
step_before x at s =
    on_reply (instruction_at x.kernel at)
    (λ n. record { next = at; effect = refused n detail.None })
    (λ i. record { next = i.next; effect = effect_before x s i.value (number_before (register_bytes x) x.tables i.value) })

unfoldable pub run_before : Setup → State → Outcome
run_before x s =
    cond (tables_good (lengths_of x s) x.tables)
    (run_from (step_before x) (length x.kernel) (length x.kernel) 0 0 s)
    (stopped 13 0 0 s)

-- an outcome in the numbers of before
abbrev pub outcome_before : Outcome → Outcome
outcome_before o = stopped (as_before o.answer.number) o.answer.completed o.answer.position o.state
