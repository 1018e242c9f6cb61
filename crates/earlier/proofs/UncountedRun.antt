-- What the counts change of a run: 17, and 13 for a bad one. A run that gives neither is the one of before; and where every count is 32 all are,
-- since 8 comes first.
use Prim.Native.Nat.{ℕ, ◌<◌}
use mathlib.Core.Path.{◌≡◌, refl, ap, subst, ◌∙◌}
use mathlib.Core.Logic.{◌≢◌}
use mathlib.Core.Bool.{Bool, true, false, cond, false≢true, ◌&&◌}
use native.Mathlib.Omega.{arith}
use lib.Dec.{ltb, leb, eqb}
use lib.ListN.{length, get_or, replicate, length-replicate, get_or-replicate}
use borrow.Author.Tests.{ltb-true, leb-true, le-ltb, eq-eqb}
use Rattle.refusal.specs.declared.Detail.TheVariants as detail
use Rattle.cells.specs.Effect.{refused, unless}
use Rattle.reader.specs.Reply as reply
use Rattle.reader.specs.Reply.{Reply, Read, on_reply}
use Rattle.bits.specs.Below.{every_below}
use Rattle.predicate_field.specs.Predicate.{has_predicate, predicate_id}
use Rattle.lengths.specs.Lengths.{lengths_good}
use Rattle.tables.specs.Variables.{variables_good}
use Rattle.surface_table.specs.Surfaces.{surfaces_good}
use Rattle.predicate_table.specs.Predicates.{Predicates, count_good, count_good_at, predicates_good}
use Rattle.tables.specs.Tables.{tables_good}
use Rattle.bits.proofs.Every.{every_holds}
use Rattle.field_groups.specs.declared.Control.{Control}
use Rattle.decoder.specs.declared.Instruction.{Instruction}
use Rattle.decoder.specs.Decoding.{instruction_at}
use Rattle.plan.specs.Plan.{Plan}
use Rattle.controls.specs.Control.{lanes_end, predicate_for, control_refusal}
use Rattle.plan.specs.Control.{control_of}
use Rattle.plan.specs.Plans.{refused_plan}
use Rattle.plan.specs.Checked.{checked}
use Rattle.step.specs.State.{Setup, State, register_bytes, lengths_of}
use Rattle.step.specs.Step.{Stepped, plan_effect, step_at, after}
use Rattle.step.proofs.SameStep.{SameStep}
use Rattle.step.proofs.StepOf.{step_of}
use Rattle.run.specs.Run.{stopped, run_from, run_through, run}
use Rattle.run.proofs.Simulation.{runs-same-where}
use Rattle.earlier.specs.Uncounted.{tables_uncounted, control_uncounted, checked_uncounted, step_uncounted, run_uncounted}
use Rattle.earlier.specs.PastCount.{past_count, AllThirtyTwo}
use Rattle.earlier.proofs.Uncounted.{control-counted, checked-counted}

-- ---- a run that gives neither 13 nor 17

module _ (x : Setup) where
  refused-seventeen : (s : State) → (plan_effect x.constants (refused_plan 17 detail.None) s).number ≡ 17
  unfolding plan_effect refused_plan unless
  refused-seventeen s = refl

  checked-unless : (s : State) (i : Instruction) → (plan_effect x.constants (checked (register_bytes x) x.tables i) s).number ≢ 17 → checked (register_bytes x) x.tables i ≡ checked_uncounted (register_bytes x) x.tables i
  checked-unless s i h =
      let is = checked-counted (register_bytes x) x.tables i in
      is ∙ told (past_count x.tables.predicates (control_of i)) (subst (λ (p : Plan). (plan_effect x.constants p s).number ≢ 17) is h)
    where
      told : (q : Bool) → (plan_effect x.constants (cond q (refused_plan 17 detail.None) (checked_uncounted (register_bytes x) x.tables i)) s).number ≢ 17 → cond q (refused_plan 17 detail.None) (checked_uncounted (register_bytes x) x.tables i) ≡ checked_uncounted (register_bytes x) x.tables i
      told true f = absurd (f (refused-seventeen s))
      told false f = refl

  -- the step of before, by what stands decoded at its position
  abbrev step_then : ℕ → State → Reply (Read Instruction) → Stepped
  step_then at s d = on_reply d (λ n. record { next = at; effect = refused n detail.None }) (λ i. record { next = i.next; effect = plan_effect x.constants (checked_uncounted (register_bytes x) x.tables i.value) s })

  step-unless : (at : ℕ) (s : State) → (step_at x at s).effect.number ≢ 17 → step_at x at s ≡ step_uncounted x at s
  unfolding step_at step_uncounted
  step-unless at s = told (instruction_at x.kernel at)
    where
      told : (d : Reply (Read Instruction)) → (step_of x (λ (p : Plan). plan_effect x.constants p s) at d).effect.number ≢ 17 → step_of x (λ (p : Plan). plan_effect x.constants p s) at d ≡ step_then at s d
      told (reply.refused n) h = refl
      told (reply.done i) h = ap (λ (p : Plan). record { next = i.next; effect = plan_effect x.constants p s }) (checked-unless s i.value h)

  abbrev Same : State → State → Type 0
  Same s u = s ≡ u

  step_same : (at : ℕ) (s u : State) → s ≡ u → (step_at x at s).effect.number ≢ 17 → SameStep Same (step_at x at s) (step_uncounted x at u) s u
  step_same at s u e h =
      let is = step-unless at s h in
      subst (λ (v : State). SameStep Same (step_at x at s) (step_uncounted x at v) s v) e
      (record { next = ap (λ (t : Stepped). t.next) is; number = ap (λ (t : Stepped). t.effect.number) is; detail = ap (λ (t : Stepped). t.effect.detail) is; state = ap (λ (t : Stepped). after t.effect s) is })

  -- tables that are good were so without counts
  tables-still : (s : State) → tables_good (lengths_of x s) x.tables ≡ true → tables_uncounted (lengths_of x s) x.tables ≡ true
  unfolding tables_good tables_uncounted predicates_good
  tables-still s =
      let l = lengths_of x s in
      let p = x.tables.predicates in
      still (lengths_good l) (variables_good l.register_size l.registers x.tables.variables) (leb (length p.bits) 64) (eqb (length p.counts) (length p.bits)) (every_below (length p.counts) (count_good_at p.counts)) (surfaces_good l.surfaces x.tables.surfaces)
    where
      still : (a b f g h d : Bool) → (a && b && (f && g && h) && d) ≡ true → (a && b && f && d) ≡ true
      still true true true true true d e = e
      still true true true true false d e = absurd (false≢true e)
      still true true true false h d e = absurd (false≢true e)
      still true true false g h d e = absurd (false≢true e)
      still true false f g h d e = absurd (false≢true e)
      still false b f g h d e = absurd (false≢true e)

  pub run-unless : (s : State) → (run x s).answer.number ≢ 13 → (run x s).answer.number ≢ 17 → run x s ≡ run_uncounted x s
  unfolding run run_uncounted
  run-unless s = told (tables_good (lengths_of x s) x.tables) refl
    where
      ran : (run_through x s).answer.number ≢ 17 → run_through x s ≡ run_from (step_uncounted x) (length x.kernel) (length x.kernel) 0 0 s
      ran h =
          let r = runs-same-where Same (λ n. n ≢ 17) (λ (e : ◌≡◌ {A = ℕ} 0 17). omega (arith, e)) (step_at x) (step_uncounted x) step_same (length x.kernel) (length x.kernel) 0 0 s s refl h in
          λ j. record { answer = r.answer j; state = r.state j }

      told : (q : Bool) → tables_good (lengths_of x s) x.tables ≡ q → (cond q (run_through x s) (stopped 13 0 0 s)).answer.number ≢ 13 → (cond q (run_through x s) (stopped 13 0 0 s)).answer.number ≢ 17
          → cond q (run_through x s) (stopped 13 0 0 s) ≡ cond (tables_uncounted (lengths_of x s) x.tables) (run_from (step_uncounted x) (length x.kernel) (length x.kernel) 0 0 s) (stopped 13 0 0 s)
      told true good _ h = rw (tables-still s good) (ran h)
      told false bad h _ = absurd (h refl)

-- ---- a run with all counts 32

count-of-32 : (n k : ℕ) → k < n → ◌≡◌ {A = ℕ} (get_or (replicate n 32) k 0) 32
count-of-32 n k h = get_or-replicate n k 32 0 h

good-32 : (n k : ℕ) → k < n → count_good_at (replicate n 32) k ≡ true
unfolding count_good_at count_good
good-32 n k h = rw (count-of-32 n k h)

module _ (p : Predicates) (all : AllThirtyTwo p) where
  never-past : (c : Control) → past_count p c ≡ false
  unfolding past_count
  never-past c = rw all (told (leb end 32) refl (has_predicate c.pred) (ltb id n) refl)
    where
      n : ℕ
      n = length p.bits

      id : ℕ
      id = predicate_id c.pred

      end : ℕ
      end = lanes_end c.exec

      told : (fits : Bool) → leb end 32 ≡ fits → (has present : Bool) → ltb id n ≡ present → (fits && has && present && ltb (get_or (replicate n 32) id 0) end) ≡ false
      told false e has present f = refl
      told true e false present f = refl
      told true e true false f = refl
      told true e true true f = rw (count-of-32 n id (ltb-true id n f), le-ltb 32 end (leb-true end 32 e))

  -- the control's number is document 01's
  pub control-uncounted : (i : Instruction) → control_refusal (predicate_for p (control_of i)) (control_of i) ≡ control_uncounted p.bits (control_of i)
  control-uncounted i = control-counted p i ∙ ap (λ (q : Bool). cond q 17 (control_uncounted p.bits (control_of i))) (never-past (control_of i))

  counts-judged : predicates_good p ≡ leb (length p.bits) 64
  unfolding predicates_good
  counts-judged =
      let n = length p.bits in
      rw (all, length-replicate {A = ℕ} n 32, eq-eqb n n refl, every_holds (count_good_at (replicate n 32)) n (good-32 n)) (told (leb n 64))
    where
      told : (q : Bool) → (q && true && true) ≡ q
      told true = refl
      told false = refl

module _ (x : Setup) (all : AllThirtyTwo x.tables.predicates) where
  checked-uncounted : (i : Instruction) → checked (register_bytes x) x.tables i ≡ checked_uncounted (register_bytes x) x.tables i
  checked-uncounted i = checked-counted (register_bytes x) x.tables i ∙ ap (λ (q : Bool). cond q (refused_plan 17 detail.None) (checked_uncounted (register_bytes x) x.tables i)) (never-past x.tables.predicates all (control_of i))

  step-uncounted : (at : ℕ) (s : State) → step_at x at s ≡ step_uncounted x at s
  unfolding step_at step_uncounted
  step-uncounted at s = told (instruction_at x.kernel at)
    where
      told : (d : Reply (Read Instruction)) → step_of x (λ (p : Plan). plan_effect x.constants p s) at d ≡ step_then x at s d
      told (reply.refused n) = refl
      told (reply.done i) = ap (λ (p : Plan). record { next = i.next; effect = plan_effect x.constants p s }) (checked-uncounted i.value)

  tables-uncounted : (s : State) → tables_good (lengths_of x s) x.tables ≡ tables_uncounted (lengths_of x s) x.tables
  unfolding tables_good tables_uncounted
  tables-uncounted s = rw (counts-judged x.tables.predicates all)

  -- of every run, 13 included
  pub run-uncounted : (s : State) → run x s ≡ run_uncounted x s
  unfolding run run_uncounted
  run-uncounted s =
      rw (tables-uncounted s)
      (ap (λ (f : ℕ → State → Stepped). cond (tables_uncounted (lengths_of x s) x.tables) (run_from f (length x.kernel) (length x.kernel) 0 0 s) (stopped 13 0 0 s)) (λ j at u. step-uncounted at u j))
