-- Exec byte and pred word, which every instruction has: its lanes fit the mask (refusal 8), and the predicate that is named is in the table
-- (refusal 5) and has that many elements (refusal 17).
use Rattle.std.specs.Prelude.{ℕ, ◌+◌, cond, not, ltb}
use Rattle.predicate_table.specs.declared.PredicateRecord.{PredicateRecord}
use Rattle.predicate_table.specs.Predicates.{Predicates, predicate_at}
use Rattle.exec_byte.specs.Exec.{exec_size, exec_offset}
use Rattle.predicate_field.specs.Predicate.{has_predicate, predicate_id}
use Rattle.field_groups.specs.declared.Control.{Control}

-- "offset + ExecSize"
abbrev pub lanes_end : ℕ → ℕ
lanes_end exec = exec_offset exec + exec_size exec

-- the predicate with the id that the pred word has
abbrev pub predicate_for : Predicates → Control → PredicateRecord
predicate_for t control = predicate_at t (predicate_id control.pred)

-- 5: "predicate .. not in its table"; then 17: "offset plus ExecSize over the count, directly after the predicate's 5" (document 02, request 3)
unfoldable pub predicate_refusal : PredicateRecord → ℕ → ℕ
predicate_refusal p exec = cond (not p.present) 5 (cond (ltb p.count (lanes_end exec)) 17 0)

-- 8: "offset + ExecSize over 32"; then those of the predicate, where the pred word names one; 0 is no refusal
unfoldable pub control_refusal : PredicateRecord → Control → ℕ
control_refusal p control =
    cond (ltb 32 (lanes_end control.exec)) 8
    (cond (has_predicate control.pred) (predicate_refusal p control.exec) 0)

-- the bits of the predicate that the pred word names, 0 without one
unfoldable pub bits_named : PredicateRecord → ℕ → ℕ
bits_named p pred = cond (has_predicate pred) p.bits 0
