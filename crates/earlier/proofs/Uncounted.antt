-- What a predicate's count changes of an instruction: 17, which is given exactly where a lane would read past it, and nothing else.
use Prim.Native.Nat.{ℕ}
use mathlib.Core.Path.{◌≡◌, refl, sym, ap, ◌∙◌}
use mathlib.Core.Bool.{Bool, true, false, cond, not, ◌&&◌}
use mathlib.Core.List.{List}
use native.Mathlib.Omega.{arith}
use lib.Dec.{ltb, leb, eqb}
use lib.ListN.{length, get_or}
use borrow.Author.Tests.{eq-eqb}
use Rattle.refusal.specs.declared.Detail.TheVariants as detail
use Rattle.refusal.specs.Details.{names_operand}
use Rattle.predicate_field.specs.Predicate.{has_predicate, predicate_id}
use Rattle.predicate_table.specs.Predicates.{Predicates, predicate_at}
use Rattle.tables.specs.Tables.{Tables}
use Rattle.field_groups.specs.declared.Control.{Control}
use Rattle.decoder.specs.declared.Instruction.{Instruction}
use Rattle.region_rules.proofs.SplitLaws.{at_most}
use Rattle.plan.specs.Plan.{Plan}
use Rattle.controls.specs.Control.{lanes_end, predicate_for, predicate_refusal, control_refusal, bits_named}
use Rattle.plan.specs.Control.{control_of}
use Rattle.plan.specs.Plans.{refused_plan, tested}
use Rattle.plan.specs.Checked.{checked_operands, checked}
use Rattle.plan.proofs.TestLaws.{refusal-number}
use Rattle.earlier.specs.Given.{is_given_uncounted}
use Rattle.earlier.specs.Uncounted.{control_uncounted, bits_uncounted, checked_uncounted}
use Rattle.earlier.specs.PastCount.{past_count}
use Rattle.earlier.proofs.Given.{passes-not, tested-given, instruction-given}

pub control-counted : (t : Predicates) (i : Instruction) → control_refusal (predicate_for t (control_of i)) (control_of i) ≡ cond (past_count t (control_of i)) 17 (control_uncounted t.bits (control_of i))
unfolding control_refusal predicate_refusal predicate_at past_count control_uncounted
control-counted t i =
    let id = predicate_id (control_of i).pred in
    let end = lanes_end (control_of i).exec in
    rw (at_most end 32, at_most (length t.bits) id) (told (ltb 32 end) (has_predicate (control_of i).pred) (ltb id (length t.bits)) (ltb (get_or t.counts id 0) end))
  where
    told : (over has present short : Bool) → ◌≡◌ {A = ℕ} (cond over 8 (cond has (cond (not present) 5 (cond short 17 0)) 0)) (cond (not over && has && present && short) 17 (cond over 8 (cond (has && not present) 5 0)))
    told true has present short = refl
    told false false present short = refl
    told false true false short = refl
    told false true true true = refl
    told false true true false = refl

-- 17, or what it was before
pub checked-counted : (register_size : ℕ) (t : Tables) (i : Instruction) → checked register_size t i ≡ cond (past_count t.predicates (control_of i)) (refused_plan 17 detail.None) (checked_uncounted register_size t i)
unfolding checked checked_uncounted tested bits_named bits_uncounted predicate_at
checked-counted register_size t i =
    rw (control-counted t.predicates i) (told (past_count t.predicates (control_of i)))
  where
    next : Plan
    next = checked_operands register_size t (cond (has_predicate (control_of i).pred) (get_or t.predicates.bits (predicate_id (control_of i).pred) 0) 0) i

    told : (q : Bool) → cond (ltb 0 (cond q 17 (control_uncounted t.predicates.bits (control_of i)))) (refused_plan (cond q 17 (control_uncounted t.predicates.bits (control_of i))) detail.None) next
        ≡ cond q (refused_plan 17 detail.None) (cond (ltb 0 (control_uncounted t.predicates.bits (control_of i))) (refused_plan (control_uncounted t.predicates.bits (control_of i)) detail.None) next)
    told true = refl
    told false = refl

-- "Whatever is not refused keeps its enabled channels", and all else that is run of it
pub accepted-uncounted : (register_size : ℕ) (t : Tables) (i : Instruction) → (checked register_size t i).number ≡ 0 → checked register_size t i ≡ checked_uncounted register_size t i
accepted-uncounted register_size t i z = checked-counted register_size t i ∙ told (past_count t.predicates (control_of i)) (sym (ap (λ (p : Plan). p.number) (checked-counted register_size t i)) ∙ z)
  where
    told : (q : Bool) → (cond q (refused_plan 17 detail.None) (checked_uncounted register_size t i)).number ≡ 0 → cond q (refused_plan 17 detail.None) (checked_uncounted register_size t i) ≡ checked_uncounted register_size t i
    told true e = absurd (omega (arith, refusal-number 17 detail.None, e))
    told false e = refl

control-uncounted-given : (bits : List ℕ) (c : Control) → is_given_uncounted (control_uncounted bits c) ≡ true
unfolding control_uncounted is_given_uncounted names_operand
control-uncounted-given bits c = told (ltb 32 (lanes_end c.exec)) (has_predicate c.pred && leb (length bits) (predicate_id c.pred))
  where
    told : (over absent : Bool) → is_given_uncounted (cond over 8 (cond absent 5 0)) ≡ true
    told true absent = refl
    told false true = refl
    told false false = refl

uncounted-given : (register_size : ℕ) (t : Tables) (i : Instruction) → is_given_uncounted (checked_uncounted register_size t i).number ≡ true
unfolding checked_uncounted
uncounted-given register_size t i = tested-given (λ (n : ℕ). is_given_uncounted n ≡ true) _ _ _ (control-uncounted-given t.predicates.bits (control_of i)) (instruction-given register_size t _ i)

seventeen-is-none : is_given_uncounted 17 ≡ false
unfolding is_given_uncounted names_operand
seventeen-is-none = refl

-- 17 is given exactly there
pub seventeen-exactly : (register_size : ℕ) (t : Tables) (i : Instruction) → eqb (checked register_size t i).number 17 ≡ past_count t.predicates (control_of i)
seventeen-exactly register_size t i = ap (λ (p : Plan). eqb p.number 17) (checked-counted register_size t i) ∙ told (past_count t.predicates (control_of i))
  where
    told : (q : Bool) → eqb (cond q (refused_plan 17 detail.None) (checked_uncounted register_size t i)).number 17 ≡ q
    told true = eq-eqb _ 17 (refusal-number 17 detail.None)
    told false = passes-not is_given_uncounted 17 seventeen-is-none (checked_uncounted register_size t i).number (uncounted-given register_size t i)
