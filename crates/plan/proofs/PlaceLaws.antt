-- A refused plan names the operand that is refused, exactly where its number is one of 20 to 25; all operands before it are good.
use Prim.Native.Nat.{ℕ, suc}
use mathlib.Core.Path.{◌≡◌, refl}
use mathlib.Core.Bool.{Bool, true, false, cond, not, ◌&&◌}
use mathlib.Core.List.{List, [], ◌∷◌, map}
use native.Mathlib.Omega.{arith}
use lib.Dec.{ltb, leb}
use lib.ListN.{length}
use borrow.Author.Tests.{ltb-false}
use Rattle.refusal.specs.declared.Detail.TheVariants as detail
use Rattle.refusal.specs.Details.{names_operand, operand_detail}
use Rattle.tables.specs.Tables.{Tables}
use Rattle.tables.specs.Variables.{Variables}
use Rattle.predicate_table.specs.declared.PredicateRecord.{PredicateRecord}
use Rattle.predicate_field.specs.Predicate.{has_predicate}
use Rattle.field_groups.specs.declared.Control.{Control}
use Rattle.decoder.specs.declared.Instruction.{Instruction}
use Rattle.decoder.specs.declared.Instruction.TheVariants as instruction
use Rattle.regions.proofs.ReachLaws.{cond_either}
use Rattle.plan.specs.Plan.{Plan}
use Rattle.controls.specs.Control.{lanes_end, predicate_for, predicate_refusal, control_refusal, bits_named}
use Rattle.plan.specs.Control.{control_of}
use Rattle.plan.specs.Plans.{refused_plan, tested, tested_from, shl_plan, gather_plan, scatter_plan}
use Rattle.plan.specs.Checked.{checked_shl, checked_gather_operands, checked_gather, checked_scatter, checked_send, checked_operands, checked, shl_dst, shl_src0, shl_src1, gather_offset, gather_element_offset, gather_dst, scatter_address, scatter_element_offset, scatter_src, send_desc, send_src, send_dst}
use Rattle.plan.specs.Places.{Asked, operands_of, located, here, later, Names, nothing, operand, NamesOf}
use Rattle.plan.proofs.NumberLaws.{region-told}

module _ (register_size : ℕ) (t : Variables) (exec : ℕ) where
  -- the refusal of the operand at a place
  refusal-names : (place : ℕ) (o : Asked) (os : List Asked) → Names register_size t exec place (o ∷ os) (refused_plan (located register_size t exec o).number (operand_detail (located register_size t exec o).number place))
  unfolding refused_plan operand_detail
  refusal-names place o os = told (names_operand (located register_size t exec o).number) refl
    where
      told : (q : Bool) → names_operand (located register_size t exec o).number ≡ q → Names register_size t exec place (o ∷ os) (refused_plan (located register_size t exec o).number (cond q (detail.Operand place) detail.None))
      told true e = operand refl e here (region-told register_size t exec o e)
      told false e = nothing refl e

  names-later : (first : ℕ) (o : Asked) (os : List Asked) (p : Plan) → (located register_size t exec o).number ≡ 0 → Names register_size t exec (suc first) os p → Names register_size t exec first (o ∷ os) p
  names-later first o os p good (nothing d n) = nothing d n
  names-later first o os p good (operand d n at r) = operand d n (later good at) r

  operands-name : (first : ℕ) (os : List Asked) (next : Plan) → Names register_size t exec first [] next → Names register_size t exec first os (tested_from first (map (located register_size t exec) os) next)
  unfolding tested
  operands-name first [] next none = none
  operands-name first (o ∷ os) next none =
      cond_either (Names register_size t exec first (o ∷ os)) (ltb 0 (located register_size t exec o).number) (λ _. refusal-names first o os)
      (λ e. names-later first o os _ (omega (arith, ltb-false 0 (located register_size t exec o).number e)) (operands-name (suc first) os next (onward none)))
    where
      onward : Names register_size t exec first [] next → Names register_size t exec (suc first) [] next
      onward (nothing d n) = nothing d n
      onward (operand _ _ at _) = elim at [ ]

  -- a plan without operands to name
  plain-names : (first n : ℕ) (os : List Asked) → names_operand n ≡ false → Names register_size t exec first os (refused_plan n detail.None)
  unfolding refused_plan
  plain-names first n os e = nothing refl e

module _ (register_size : ℕ) (t : Tables) (bits : ℕ) where
  checked-names : (i : Instruction) → NamesOf register_size t i (checked_operands register_size t bits i)
  unfolding checked_operands checked_shl checked_gather checked_gather_operands checked_scatter checked_send names_operand shl_plan gather_plan scatter_plan control_of shl_dst shl_src0 shl_src1 gather_offset gather_element_offset gather_dst scatter_address scatter_element_offset scatter_src send_desc send_src send_dst
  checked-names (instruction.Shl i) = operands-name register_size t.variables i.control.exec 1 (operands_of register_size (instruction.Shl i)) _ (nothing refl refl)
  checked-names (instruction.Gather i) =
      cond_either (NamesOf register_size t (instruction.Gather i)) (not (ltb i.access.surface (length t.surfaces.lengths)))
      (λ _. plain-names register_size t.variables i.control.exec 1 5 (operands_of register_size (instruction.Gather i)) refl)
      (λ _. operands-name register_size t.variables i.control.exec 1 (operands_of register_size (instruction.Gather i)) _ (nothing refl refl))
  checked-names (instruction.Scatter i) = operands-name register_size t.variables i.control.exec 1 (operands_of register_size (instruction.Scatter i)) _ (nothing refl refl)
  checked-names (instruction.RawSend i) = operands-name register_size t.variables i.control.exec 1 (operands_of register_size (instruction.RawSend i)) _ (plain-names register_size t.variables i.control.exec 1 9 [] refl)

-- 8, 5, 17 or no refusal
pub control-unnamed : (p : PredicateRecord) (c : Control) → names_operand (control_refusal p c) ≡ false
unfolding control_refusal predicate_refusal names_operand
control-unnamed p c =
    let P : ℕ → Type 0 = λ n. (leb 20 n && leb n 25) ≡ false in
    cond_either P (ltb 32 (lanes_end c.exec)) (λ _. refl)
    (λ _. cond_either P (has_predicate c.pred)
    (λ _. cond_either P (not p.present) (λ _. refl) (λ _. cond_either P (ltb p.count (lanes_end c.exec)) (λ _. refl) (λ _. refl)))
    (λ _. refl))

pub plan-names : (register_size : ℕ) (t : Tables) (i : Instruction) → NamesOf register_size t i (checked register_size t i)
unfolding checked tested
plan-names register_size t i =
    let p = predicate_for t.predicates (control_of i) in
    cond_either (NamesOf register_size t i) (ltb 0 (control_refusal p (control_of i)))
    (λ _. plain-names register_size t.variables (control_of i).exec 1 (control_refusal p (control_of i)) (operands_of register_size i) (control-unnamed p (control_of i)))
    (λ _. checked-names register_size t (bits_named p (control_of i).pred) i)
