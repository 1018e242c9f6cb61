-- When one run follows another, and what a run keeps: of any steps, by any relation or property of states.
use mathlib.Core.Path.{◌≡◌, refl, sym, ap₂, ◌∙◌, subst}
use mathlib.Core.Bool.{Bool, true, false, cond}
use Prim.Native.Nat.{ℕ, zero, suc}
use native.Mathlib.Omega.{arith}
use lib.Dec.{ltb}
use Rattle.refusal.specs.declared.Detail.{Detail}
use Rattle.step.specs.State.{State}
use Rattle.step.specs.Step.{Stepped, after}
use Rattle.step.proofs.SameStep.{SameStep}
use Rattle.run.specs.Run.{Outcome, stopped_with, stopped, settled, run_from}

module _ (S : State → State → Type 0) where
  pub record SameOutcome (r q : Outcome) : Type 0 where
    pub answer : r.answer ≡ q.answer
    pub state : S r.state q.state

  -- where only some answers of the first run matter, 0 among them
  module _ (matters : ℕ → Type 0) (done : matters 0) where
    abbrev Rest : (ℕ → ℕ → State → Outcome) → (ℕ → ℕ → State → Outcome) → Type 0
    Rest j k = (c a : ℕ) (s v : State) → S s v → matters (j c a s).answer.number → SameOutcome (j c a s) (k c a v)

    settled_same : (j k : ℕ → ℕ → State → Outcome) (c a : ℕ) (t u : Stepped) (s v : State) → Rest j k → S s v → SameStep S t u s v → (m n : ℕ) → m ≡ n → matters (settled j c a t s m).answer.number → SameOutcome (settled j c a t s m) (settled k c a u v n)
    settled_same j k c a t u s v h e f zero zero q l = rw (← f.next) (h _ _ _ _ f.state l)
    settled_same j k c a t u s v h e f zero (suc n) q l = absurd (omega arith)
    settled_same j k c a t u s v h e f (suc m) zero q l = absurd (omega arith)
    settled_same j k c a t u s v h e f (suc m) (suc n) q l = record { answer = ap₂ (λ (x : ℕ) (d : Detail). (stopped_with x d c a s).answer) q f.detail; state = e }

    module _ (f g : ℕ → State → Stepped) (steps : (at : ℕ) (s v : State) → S s v → matters (f at s).effect.number → SameStep S (f at s) (g at v) s v) (end : ℕ) where
      stepped_same : (j k : ℕ → ℕ → State → Outcome) (c a : ℕ) (s v : State) → Rest j k → S s v → (m : ℕ) → (f a s).effect.number ≡ m → matters (settled j c a (f a s) s m).answer.number → SameOutcome (settled j c a (f a s) s m) (settled k c a (g a v) v (g a v).effect.number)
      stepped_same j k c a s v h e zero q l =
          let x = steps a s v e (subst matters (sym q) done) in
          settled_same j k c a (f a s) (g a v) s v h e x zero _ (sym q ∙ x.number) l
      stepped_same j k c a s v h e (suc m) q l =
          let x = steps a s v e (subst matters (sym q) l) in
          settled_same j k c a (f a s) (g a v) s v h e x (suc m) _ (sym q ∙ x.number) l

      turn-same : (j k : ℕ → ℕ → State → Outcome) (c a : ℕ) (s v : State) → Rest j k → S s v → (q : Bool) → matters (cond q (settled j c a (f a s) s (f a s).effect.number) (stopped 0 c a s)).answer.number → SameOutcome (cond q (settled j c a (f a s) s (f a s).effect.number) (stopped 0 c a s)) (cond q (settled k c a (g a v) v (g a v).effect.number) (stopped 0 c a v))
      turn-same j k c a s v h e true l = stepped_same j k c a s v h e (f a s).effect.number refl l
      turn-same j k c a s v h e false l = record { answer = refl; state = e }

      pub runs-same-where : (fuel : ℕ) → Rest (run_from f end fuel) (run_from g end fuel)
      unfolding run_from
      runs-same-where zero c a s v e l = record { answer = refl; state = e }
      runs-same-where (suc fuel) c a s v e l =
          turn-same (λ c' a' x. run_from f end fuel c' a' x) (λ c' a' x. run_from g end fuel c' a' x) c a s v (runs-same-where fuel) e (ltb a end) l

  pub runs_same : (f g : ℕ → State → Stepped) → ((at : ℕ) (s v : State) → S s v → SameStep S (f at s) (g at v) s v) → (end fuel c a : ℕ) (s v : State) → S s v → SameOutcome (run_from f end fuel c a s) (run_from g end fuel c a v)
  runs_same f g steps end fuel c a s v e = runs-same-where (λ _. Unit) tt f g (λ at s' v' r _. steps at s' v' r) end fuel c a s v e tt

-- what every step keeps, the run keeps
module _ (P : State → Type 0) (f : ℕ → State → Stepped) (steps : (at : ℕ) (s : State) → P s → P (after (f at s).effect s)) (end : ℕ) where
  settled-keeps : (k : ℕ → ℕ → State → Outcome) (c a : ℕ) (t : Stepped) (s : State) → ((c a : ℕ) (s : State) → P s → P (k c a s).state) → P s → P (after t.effect s) → (n : ℕ) → P (settled k c a t s n).state
  settled-keeps k c a t s h e x zero = h _ _ _ x
  settled-keeps k c a t s h e x (suc n) = e

  turn-keeps : (k : ℕ → ℕ → State → Outcome) (c a : ℕ) (s : State) → ((c a : ℕ) (s : State) → P s → P (k c a s).state) → P s → (q : Bool) → P (cond q (settled k c a (f a s) s (f a s).effect.number) (stopped 0 c a s)).state
  turn-keeps k c a s h e true = settled-keeps k c a (f a s) s h e (steps a s e) (f a s).effect.number
  turn-keeps k c a s h e false = e

  pub run-keeps : (fuel c a : ℕ) (s : State) → P s → P (run_from f end fuel c a s).state
  unfolding run_from
  run-keeps zero c a s e = e
  run-keeps (suc fuel) c a s e = turn-keeps (λ c' a' x. run_from f end fuel c' a' x) c a s (run-keeps fuel) e (ltb a end)
