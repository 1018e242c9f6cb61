-- An accepted instruction that names a predicate: it is in the table, and every lane has an element of it.
use mathlib.Core.Path.{◌≡◌}
use mathlib.Core.Bool.{true}
use Prim.Native.Nat.{ℕ, ◌≤◌, ◌<◌}
use lib.ListN.{length, get_or}
use borrow.Author.Tests.{ltb-true}
use Rattle.predicate_field.specs.Predicate.{has_predicate, predicate_id}
use Rattle.predicate_table.specs.Predicates.{Predicates, predicate_at}
use Rattle.tables.specs.Tables.{Tables}
use Rattle.field_groups.specs.declared.Control.{Control}
use Rattle.decoder.specs.declared.Instruction.{Instruction}
use Rattle.plan.specs.Plan.{Plan}
use Rattle.controls.specs.Control.{lanes_end, predicate_for, control_refusal}
use Rattle.plan.specs.Control.{control_of}
use Rattle.plan.specs.Checked.{checked}
use Rattle.controls.proofs.PassedLaws.{elements-reach}
use Rattle.plan.proofs.TestLaws.{accepted-then}

pub record Reaches (t : Predicates) (control : Control) : Type 0 where
  pub present : predicate_id control.pred < length t.bits
  pub within : lanes_end control.exec ≤ get_or t.counts (predicate_id control.pred) 0

control-reaches : (t : Predicates) (control : Control) → control_refusal (predicate_at t (predicate_id control.pred)) control ≡ 0 → has_predicate control.pred ≡ true → Reaches t control
unfolding predicate_at
control-reaches t control z has =
    let r = elements-reach (predicate_at t (predicate_id control.pred)) control z has in
    record { present = ltb-true _ _ r.0; within = r.1 }

pub accepted-reaches : (register_size : ℕ) (t : Tables) (i : Instruction) → (checked register_size t i).number ≡ 0 → has_predicate (control_of i).pred ≡ true → Reaches t.predicates (control_of i)
unfolding checked
accepted-reaches register_size t i =
    accepted-then (λ (p : Plan). has_predicate (control_of i).pred ≡ true → Reaches t.predicates (control_of i)) (control_refusal (predicate_for t.predicates (control_of i)) (control_of i)) _ _
    (λ z _. control-reaches t.predicates (control_of i) z)
