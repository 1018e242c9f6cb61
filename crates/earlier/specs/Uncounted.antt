-- The run before predicates had counts (document 02, request 3): no definition here asks for one. Of a predicate its bits were known, and its only
-- test was 5. Document 01, "The numbers given back": "A run then tests 8; predicate 5; surface 5; ..". Registers have the size of now.
use Rattle.std.specs.Prelude.{ℕ, Bool, cond, ◌&&◌, List, ltb, leb, length, get_or}
use Rattle.refusal.specs.declared.Detail.TheVariants as detail
use Rattle.cells.specs.Effect.{refused}
use Rattle.reader.specs.Reply.{on_reply}
use Rattle.predicate_field.specs.Predicate.{has_predicate, predicate_id}
use Rattle.field_groups.specs.declared.Control.{Control}
use Rattle.decoder.specs.declared.Instruction.{Instruction}
use Rattle.decoder.specs.Decoding.{instruction_at}
use Rattle.lengths.specs.declared.Lengths.{Lengths}
use Rattle.lengths.specs.Lengths.{lengths_good}
use Rattle.tables.specs.Variables.{variables_good}
use Rattle.surface_table.specs.Surfaces.{surfaces_good}
use Rattle.tables.specs.Tables.{Tables}
use Rattle.plan.specs.Plan.{Plan}
use Rattle.controls.specs.Control.{lanes_end}
use Rattle.plan.specs.Control.{control_of}
use Rattle.plan.specs.Plans.{tested}
use Rattle.plan.specs.Checked.{checked_operands}
use Rattle.step.specs.State.{Setup, State, register_bytes, lengths_of}
use Rattle.step.specs.Step.{Stepped, plan_effect}
use Rattle.run.specs.Run.{Outcome, stopped, run_from}

-- "At most .. 64 predicates"
unfoldable pub tables_uncounted : Lengths → Tables → Bool
tables_uncounted l t =
    lengths_good l
    && variables_good l.register_size l.registers t.variables
    && leb (length t.predicates.bits) 64
    && surfaces_good l.surfaces t.surfaces

-- 8: "offset + ExecSize over 32"; then 5: "predicate .. not in its table"; 0 is no refusal
unfoldable pub control_uncounted : List ℕ → Control → ℕ
control_uncounted bits control =
    cond (ltb 32 (lanes_end control.exec)) 8
    (cond (has_predicate control.pred && leb (length bits) (predicate_id control.pred)) 5 0)

-- the bits of the predicate that the pred word names, 0 without one
unfoldable pub bits_uncounted : List ℕ → ℕ → ℕ
bits_uncounted bits pred = cond (has_predicate pred) (get_or bits (predicate_id pred) 0) 0

unfoldable pub checked_uncounted : ℕ → Tables → Instruction → Plan
checked_uncounted register_size t i =
    tested (control_uncounted t.predicates.bits (control_of i)) detail.None
    (checked_operands register_size t (bits_uncounted t.predicates.bits (control_of i).pred) i)

unfoldable pub step_uncounted : Setup → ℕ → State → Stepped
step_uncounted x at s =
    on_reply (instruction_at x.kernel at)
    (λ n. record { next = at; effect = refused n detail.None })
    (λ i. record { next = i.next; effect = plan_effect x.constants (checked_uncounted (register_bytes x) x.tables i.value) s })

unfoldable pub run_uncounted : Setup → State → Outcome
run_uncounted x s =
    cond (tables_uncounted (lengths_of x s) x.tables)
    (run_from (step_uncounted x) (length x.kernel) (length x.kernel) 0 0 s)
    (stopped 13 0 0 s)
