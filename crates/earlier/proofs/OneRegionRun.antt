-- "Nothing that was accepted is refused now", and nothing else changed: with 20 to 25 turned back into 6, and without what the numbers tell, every
-- run is the one with document 01's one rule, its bytes and marks included; and no run gives 6.
use Prim.Native.Nat.{ℕ, zero, suc, ◌≤◌}
use mathlib.Core.Path.{◌≡◌, refl, sym, ap, subst, ◌∙◌}
use mathlib.Core.List.{List}
use mathlib.Core.Bool.{Bool, true, false, cond}
use native.Mathlib.Omega.{arith}
use lib.Dec.{ltb}
use borrow.Author.Tests.{lt-leb}
use lib.ListN.{length}
use Rattle.refusal.specs.Details.{names_operand}
use Rattle.refusal.specs.declared.Detail.{Detail}
use Rattle.refusal.specs.declared.Detail.TheVariants as detail
use Rattle.cells.specs.Effect.{Effect, refused}
use Rattle.reader.specs.Reply as reply
use Rattle.reader.specs.Reply.{Reply, Read, on_reply}
use Rattle.decoder.specs.declared.Instruction.{Instruction}
use Rattle.decoder.specs.Decoding.{instruction_at}
use Rattle.decoder.proofs.RefusalNumbers.{refusal-at-most-four}
use Rattle.tables.specs.Tables.{tables_good}
use Rattle.plan.specs.Plan.{Plan}
use Rattle.plan.specs.Checked.{checked}
use Rattle.step.specs.State.{Setup, State, register_bytes, lengths_of}
use Rattle.step.specs.Step.{Stepped, acted, plan_effect, step_at, after}
use Rattle.scatter_effect.specs.Scatter.{Window}
use Rattle.scatter_effect.specs.Offending.{ScatterTells, done, doubtful, misaligned_pair, outside_pair}
use Rattle.step.proofs.StepOf.{step_of}
use Rattle.step.specs.Tells.{Tells, undecoded, tested, performed}
use Rattle.step.proofs.StepTells.{own-tells, step-tells}
use Rattle.step.proofs.AcceptedLaws.{plan-refuses, plan-passes}
use Rattle.run.specs.Run.{Outcome, stopped_with, stopped, settled, run_from, run_through, run}
use Rattle.run.proofs.Whole.{run_is}
use Rattle.earlier.specs.OneRegionRule.{number_before, as_before}
use Rattle.earlier.specs.Given.{is_given_uncounted, is_given}
use Rattle.earlier.specs.OneRegionRun.{effect_before, step_before, run_before, outcome_before}
use Rattle.earlier.proofs.OneRegionRule.{checked-before}
use Rattle.earlier.proofs.Given.{still-given, small-given, checked-given}

-- a step in the numbers of before: the same next position and, where it is not refused, the same state
pub record SameBefore (t u : Stepped) (s : State) : Type 0 where
  pub next : u.next ≡ t.next
  pub number : u.effect.number ≡ as_before t.effect.number
  pub untelling : u.effect.detail ≡ detail.None
  pub state : t.effect.number ≡ 0 → after u.effect s ≡ after t.effect s

-- ---- a run

module _ (f g : ℕ → State → Stepped) (steps : (at : ℕ) (s : State) → SameBefore (f at s) (g at s) s) (end : ℕ) where
  abbrev Rest : (ℕ → ℕ → State → Outcome) → (ℕ → ℕ → State → Outcome) → Type 0
  Rest j k = (c a : ℕ) (s : State) → outcome_before (j c a s) ≡ k c a s

  -- a refusal of before stops with its number
  stops : (k : ℕ → ℕ → State → Outcome) (c a : ℕ) (u : Stepped) (s : State) (n : ℕ) → u.effect.detail ≡ detail.None → stopped (as_before (suc n)) c a s ≡ settled k c a u s (as_before (suc n))
  unfolding as_before
  stops k c a u s n e = told (names_operand (suc n))
    where
      told : (q : Bool) → stopped (cond q 6 (suc n)) c a s ≡ settled k c a u s (cond q 6 (suc n))
      told true = ap (λ (d : Detail). stopped_with 6 d c a s) (sym e)
      told false = ap (λ (d : Detail). stopped_with (suc n) d c a s) (sym e)

  zero-before : as_before 0 ≡ 0
  unfolding as_before names_operand
  zero-before = refl

  settled_before : (j k : ℕ → ℕ → State → Outcome) (c a : ℕ) (s : State) → Rest j k → (n : ℕ) → (f a s).effect.number ≡ n → outcome_before (settled j c a (f a s) s n) ≡ settled k c a (g a s) s (as_before n)
  settled_before j k c a s h zero e =
      let b = steps a s in
      rw (zero-before, b.next, b.state e) (h (suc c) (f a s).next (after (f a s).effect s))
  settled_before j k c a s h (suc n) e = stops k c a (g a s) s n (steps a s).untelling

  turn-before : (j k : ℕ → ℕ → State → Outcome) (c a : ℕ) (s : State) → Rest j k → (q : Bool) → outcome_before (cond q (settled j c a (f a s) s (f a s).effect.number) (stopped 0 c a s)) ≡ cond q (settled k c a (g a s) s (g a s).effect.number) (stopped 0 c a s)
  turn-before j k c a s h true =
      settled_before j k c a s h (f a s).effect.number refl ∙ ap (settled k c a (g a s) s) (sym (steps a s).number)
  turn-before j k c a s h false = ap (λ (n : ℕ). stopped n c a s) zero-before

  runs-before : (fuel : ℕ) → Rest (run_from f end fuel) (run_from g end fuel)
  unfolding run_from
  runs-before zero c a s = ap (λ (n : ℕ). stopped n c a s) zero-before
  runs-before (suc fuel) c a s = turn-before (λ c' a' u. run_from f end fuel c' a' u) (λ c' a' u. run_from g end fuel c' a' u) c a s (runs-before fuel) (ltb a end)

-- ---- a step

-- an accepted instruction's own tests have no such number
own-stays : (w : Window) (mask : ℕ) (p : Plan) (bytes : List ℕ) (n : ℕ) (d : Detail) → ScatterTells w mask p bytes n d → n ≡ as_before n
unfolding as_before names_operand
own-stays w mask p bytes n d done = refl
own-stays w mask p bytes n d doubtful = refl
own-stays w mask p bytes n d (misaligned_pair first) = refl
own-stays w mask p bytes n d (outside_pair even first) = refl

-- nor has decoding
decoding-stays : (n : ℕ) → n ≤ 4 → n ≡ as_before n
unfolding as_before names_operand
decoding-stays n h = rw (lt-leb 20 n (omega (arith, h)))

module _ (x : Setup) (s : State) where
  abbrev planned : Instruction → Plan
  planned i = checked (register_bytes x) x.tables i

  -- the step at an instruction, now and before
  abbrev step_now : Read Instruction → Stepped
  step_now i = record { next = i.next; effect = plan_effect x.constants (planned i.value) s }

  abbrev step_then : Read Instruction → ℕ → Stepped
  step_then i n = record { next = i.next; effect = effect_before x s i.value n }

  -- an instruction whose plan is accepted, and one whose plan is refused
  accepted : (i : Read Instruction) → (planned i.value).number ≡ 0 → SameBefore (step_now i) (step_then i 0) s
  unfolding plan_effect
  accepted i z =
      let is = plan-passes (planned i.value) (acted x.constants (planned i.value).operation (planned i.value) s) z in
      subst (λ (e : Effect). SameBefore (record { next = i.next; effect = e }) (step_then i 0) s) (sym is)
      (record { next = refl; number = own-stays _ _ _ _ _ _ (own-tells x s i.value z); untelling = refl; state = λ _. refl })

  refused-then : (i : Read Instruction) (d : Detail) (n : ℕ) → SameBefore (record { next = i.next; effect = refused (suc n) d }) (step_then i (as_before (suc n))) s
  unfolding as_before
  refused-then i d n = told (names_operand (suc n)) refl
    where
      told : (q : Bool) → names_operand (suc n) ≡ q → SameBefore (record { next = i.next; effect = refused (suc n) d }) (step_then i (cond q 6 (suc n))) s
      told true e = record { next = refl; number = rw e; untelling = refl; state = λ z. absurd (omega (arith, z)) }
      told false e = record { next = refl; number = rw e; untelling = refl; state = λ z. absurd (omega (arith, z)) }

  plan-before : (i : Read Instruction) → SameBefore (step_now i) (step_then i (number_before (register_bytes x) x.tables i.value)) s
  unfolding plan_effect
  plan-before i = subst (λ (n : ℕ). SameBefore (step_now i) (step_then i n) s) (checked-before (register_bytes x) x.tables i.value) (told (planned i.value).number refl)
    where
      zero-then : as_before 0 ≡ 0
      zero-then = sym (decoding-stays 0 (omega arith))

      told : (n : ℕ) → (planned i.value).number ≡ n → SameBefore (step_now i) (step_then i (as_before (planned i.value).number)) s
      told zero e = subst (λ (k : ℕ). SameBefore (step_now i) (step_then i k) s) (sym (ap as_before e ∙ zero-then)) (accepted i e)
      told (suc n) e =
          subst (λ (f : Effect). SameBefore (record { next = i.next; effect = f }) (step_then i (as_before (planned i.value).number)) s)
          (sym (plan-refuses (planned i.value) (acted x.constants (planned i.value).operation (planned i.value) s) (omega (arith, e))))
          (subst (λ (k : ℕ). SameBefore (record { next = i.next; effect = refused k (planned i.value).detail }) (step_then i (as_before k)) s) (sym e) (refused-then i (planned i.value).detail n))

  step-before : (at : ℕ) → SameBefore (step_at x at s) (step_before x at s) s
  unfolding step_at step_before
  step-before at = told (instruction_at x.kernel at) refl
    where
      told : (d : Reply (Read Instruction)) → instruction_at x.kernel at ≡ d → SameBefore (step_of x (λ (p : Plan). plan_effect x.constants p s) at d)
          (on_reply d (λ n. record { next = at; effect = refused n detail.None }) (λ i. step_then i (number_before (register_bytes x) x.tables i.value))) s
      told (reply.refused n) e = record { next = refl; number = decoding-stays n (refusal-at-most-four x.kernel at n e); untelling = refl; state = λ _. refl }
      told (reply.done i) e = plan-before i

table-number : as_before 13 ≡ 13
unfolding as_before names_operand
table-number = refl

table-given : is_given 13 ≡ true
unfolding is_given is_given_uncounted names_operand
table-given = refl

-- of every run, 13 included
pub run-before : (x : Setup) (s : State) → outcome_before (run x s) ≡ run_before x s
unfolding run_before
run-before x s = ap outcome_before (run_is x s) ∙ told (tables_good (lengths_of x s) x.tables)
  where
    told : (q : Bool) → outcome_before (cond q (run_through x s) (stopped 13 0 0 s)) ≡ cond q (run_from (step_before x) (length x.kernel) (length x.kernel) 0 0 s) (stopped 13 0 0 s)
    told true = runs-before (step_at x) (step_before x) (λ at u. step-before x u at) (length x.kernel) (length x.kernel) 0 0 s
    told false = ap (λ (n : ℕ). stopped n 0 0 s) table-number

-- ---- the numbers that a run gives

-- 0, or that of one of its steps
run-number : (P : ℕ → Type 0) (f : ℕ → State → Stepped) → P 0 → ((at : ℕ) (s : State) → P (f at s).effect.number) → (end fuel c a : ℕ) (s : State) → P (run_from f end fuel c a s).answer.number
unfolding run_from
run-number P f nil steps end zero c a s = nil
run-number P f nil steps end (suc fuel) c a s = told (run-number P f nil steps end fuel) (ltb a end) (f a s).effect.number refl
  where
    told : ((c' a' : ℕ) (s' : State) → P (run_from f end fuel c' a' s').answer.number) → (q : Bool) (n : ℕ) → (f a s).effect.number ≡ n
        → P (cond q (settled (λ c' a' u. run_from f end fuel c' a' u) c a (f a s) s n) (stopped 0 c a s)).answer.number
    told rest true zero e = rest _ _ _
    told rest true (suc n) e = subst P e (steps a s)
    told rest false n e = nil

module _ (x : Setup) where
  own-given : (w : Window) (mask : ℕ) (p : Plan) (bytes : List ℕ) (n : ℕ) (d : Detail) → ScatterTells w mask p bytes n d → is_given n ≡ true
  unfolding is_given is_given_uncounted names_operand
  own-given w mask p bytes n d done = refl
  own-given w mask p bytes n d doubtful = refl
  own-given w mask p bytes n d (misaligned_pair first) = refl
  own-given w mask p bytes n d (outside_pair even first) = refl

  told-given : (at : ℕ) (s : State) (n : ℕ) (d : Detail) → Tells x at s n d → is_given n ≡ true
  told-given at s n d (undecoded {n = k} e) = still-given k (small-given k (omega (arith, refusal-at-most-four x.kernel at k e)))
  told-given at s n d (tested {i = i} is e names) = subst (λ (k : ℕ). is_given k ≡ true) e (checked-given (register_bytes x) x.tables i)
  told-given at s n d (performed is e own) = own-given _ _ _ _ _ _ own

  step_given : (at : ℕ) (s : State) → is_given (step_at x at s).effect.number ≡ true
  step_given at s = told-given at s _ _ (step-tells x s at)

  -- 0 to 5, 7 to 13, 17, and 20 to 25
  pub run-given : (s : State) → is_given (run x s).answer.number ≡ true
  run-given s = subst (λ (o : Outcome). is_given o.answer.number ≡ true) (sym (run_is x s)) (told (tables_good (lengths_of x s) x.tables))
    where
      told : (q : Bool) → is_given (cond q (run_through x s) (stopped 13 0 0 s)).answer.number ≡ true
      told true = run-number (λ (n : ℕ). is_given n ≡ true) (step_at x) (still-given 0 (small-given 0 (omega arith))) step_given (length x.kernel) (length x.kernel) 0 0 s
      told false = table-given
