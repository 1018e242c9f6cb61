-- A whole run: 13, or the steps from the kernel's start; and its answer as numbers.
use mathlib.Core.Path.{◌≡◌, refl, ap, sym, ◌∙◌}
use mathlib.Core.Bool.{true, false, cond}
use Rattle.std.specs.Prelude.{Option, None, Some}
use Rattle.std.proofs.lemmas.Bool.{false≢true}
use lib.Dec.{ltb}
use mathlib.Core.List.{List}
use lib.ListN.{get_or, drop}
use Prim.Native.Nat.{ℕ}
use Rattle.tables.specs.Tables.{tables_good}
use Rattle.step.specs.State.{Setup, State, lengths_of}
use Rattle.refusal.specs.declared.Refusal.{Refusal}
use Rattle.refusal.proofs.AlikeLaws.{refusals_alike}
use Rattle.refusal.proofs.OperandLaws.{values-tell}
use Rattle.refusal.proofs.RuleLaws.{number_some}
use Rattle.run.specs.declared.Answer as given
use Rattle.run.specs.Answer.{Answer, number_told, detail_told, answer_of}
use Rattle.run.specs.Run.{numbers_of, stopped, run_through, run}

pub run_is : (x : Setup) (s : State) → run x s ≡ cond (tables_good (lengths_of x s) x.tables) (run_through x s) (stopped 13 0 0 s)
unfolding run
run_is x s = refl

-- good tables and lengths: all instructions
pub tables-passed : (x : Setup) (s : State) → tables_good (lengths_of x s) x.tables ≡ true → run x s ≡ run_through x s
unfolding run
tables-passed x s good = rw good

-- "13 answers 0 and 0", and leaves everything as it was
pub tables-refused : (x : Setup) (s : State) → tables_good (lengths_of x s) x.tables ≡ false → run x s ≡ stopped 13 0 0 s
unfolding run
tables-refused x s bad = rw bad

-- an answer is its numbers: where they are equal, so are the answers
pub same_numbers : (a b : Answer) → numbers_of a ≡ numbers_of b → a ≡ b
unfolding numbers_of
same_numbers a b e =
    let number : a.number ≡ b.number = ap (λ (l : List ℕ). get_or l 0 0) e in
    let completed : a.completed ≡ b.completed = ap (λ (l : List ℕ). get_or l 1 0) e in
    let position : a.position ≡ b.position = ap (λ (l : List ℕ). get_or l 2 0) e in
    let detail : a.detail ≡ b.detail = values-tell a.detail b.detail (ap (λ (l : List ℕ). drop 3 l) e) in
    λ i. record { number = number i; completed = completed i; position = position i; detail = detail i }

-- what the code gives back for no refusal and for one differs, and so do two refusals
refusal_alike : (p q : Option Refusal) → number_told p ≡ number_told q → detail_told p ≡ detail_told q → p ≡ q
refusal_alike None None n d = refl
refusal_alike None (Some r) n d = absurd (false≢true (ap (λ (k : ℕ). ltb 0 k) n ∙ number_some r))
refusal_alike (Some r) None n d = absurd (false≢true (ap (λ (k : ℕ). ltb 0 k) (sym n) ∙ number_some r))
refusal_alike (Some r) (Some s) n d = ap (λ (x : Refusal). Some x) (refusals_alike r s n d)

-- the same of the answers that the code gives back: where all numbers are equal, so are they
pub given_alike : (a b : given.Answer) → numbers_of (answer_of a) ≡ numbers_of (answer_of b) → a ≡ b
given_alike a b e =
    let same : answer_of a ≡ answer_of b = same_numbers (answer_of a) (answer_of b) e in
    let refusal : a.refusal ≡ b.refusal =
    refusal_alike a.refusal b.refusal (ap (λ (x : Answer). x.number) same) (ap (λ (x : Answer). x.detail) same) in
    let completed : a.completed ≡ b.completed = ap (λ (x : Answer). x.completed) same in
    let position : a.position ≡ b.position = ap (λ (x : Answer). x.position) same in
    λ i. record { refusal = refusal i; completed = completed i; position = position i }
