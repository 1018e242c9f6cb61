-- The plain run's two ways: buffers too long for any tables, and the run over taint that is all zero.
use mathlib.Core.Path.{◌≡◌, refl, sym, ap, ◌∙◌}
use mathlib.Core.Bool.{Bool, true, false, true≢false, ◌||◌}
use mathlib.Core.List.{List}
use Prim.Native.Nat.{ℕ, zero, suc, ◌≤◌}
use native.Mathlib.Omega.{arith}
use lib.ListN.{length, take, replicate, length-replicate}
use lib.Seq.{length-take-le}
use lib.Dec.{ltb}
use borrow.Author.Tests.{ltb-false, le-ltb}
use Rattle.refusal.specs.declared.Detail.TheVariants as detail
use Rattle.lengths.specs.declared.Lengths.{Lengths}
use Rattle.tables.specs.Tables.{Tables, tables_good}
use Rattle.tables.proofs.Laws.{limited, surfaces-small}
use Rattle.step.specs.State.{Setup, State, state, lengths_of}
use Rattle.run.specs.Answer.{Answer}
use Rattle.run.specs.Run.{outcome, run}
use Rattle.plain_run.specs.PlainRun.{unmarked, plain_run, plain_outcome, without_marks}
use Rattle.plain_run.specs.Mirror.TooLong.{too_long}
use Rattle.run.proofs.Whole.{tables-refused}

-- the plain run is the run of the same bytes with no marks
pub plain-run-is : (x : Setup) (registers surfaces memory : List ℕ) → plain_run x registers surfaces memory ≡ run x (record { registers = unmarked registers; surfaces = unmarked surfaces; memory = unmarked memory })
unfolding plain_run
plain-run-is x registers surfaces memory = refl

-- the first of equal elements, whatever they are
pub equal-taken : {A : Type 0} (a : A) (n m : ℕ) → n ≤ m → take n (replicate m a) ≡ replicate n a
equal-taken a zero m h = refl
equal-taken a (suc n) zero h = absurd (omega arith)
equal-taken a (suc n) (suc m) h = rw (equal-taken a n m (omega arith))

pub length_taken : (a n m : ℕ) → n ≤ m → n ≡ length (take n (replicate m a))
length_taken a n m h = sym (length-take-le n (replicate m a) (rw (length-replicate m a) h))

-- what the test leaves
pub record Short (registers surfaces memory : ℕ) : Type 0 where
  pub registers-short : registers ≤ 4096
  pub surfaces-short : surfaces ≤ 8192
  pub memory-short : memory ≤ 4096

or-false : (a b c : Bool) → (a || (b || c)) ≡ false → (a ≡ false) × ((b ≡ false) × (c ≡ false))
or-false true b c e = absurd (true≢false e)
or-false false true c e = absurd (true≢false e)
or-false false false true e = absurd (true≢false e)
or-false false false false e = (refl, (refl, refl))

pub short-told : (registers surfaces memory : ℕ) → too_long registers surfaces memory ≡ false → Short registers surfaces memory
unfolding too_long
short-told registers surfaces memory e =
    let h = or-false (ltb 4096 registers) (ltb 8192 surfaces) (ltb 4096 memory) e in
    record {
      registers-short = ltb-false 4096 registers h.0;
      surfaces-short = ltb-false 8192 surfaces h.1.0;
      memory-short = ltb-false 4096 memory h.1.1;
    }

-- good tables have none of these lengths
good-short : (l : Lengths) (t : Tables) → tables_good l t ≡ true → too_long l.registers l.surfaces l.memory ≡ false
unfolding too_long
good-short l t good =
    let limits = limited l t good in
    rw (le-ltb 4096 l.registers limits.registers-small, le-ltb 8192 l.surfaces (surfaces-small l t good), le-ltb 4096 l.memory limits.memory-small)

module _ (x : Setup) (registers surfaces memory : List ℕ) where
  abbrev start : State
  start = state registers (replicate (length registers) 0) surfaces (replicate (length surfaces) 0) memory (replicate (length memory) 0)

  pub too-long-answers : too_long (length registers) (length surfaces) (length memory) ≡ true → plain_outcome (record { number = 13; completed = 0; position = 0; detail = detail.None }) registers memory ≡ without_marks (plain_run x registers surfaces memory)
  too-long-answers long = ap without_marks (sym (plain-run-is x registers surfaces memory ∙ tables-refused x start (told (tables_good (lengths_of x start) x.tables) refl)))
    where
      told : (q : Bool) → tables_good (lengths_of x start) x.tables ≡ q → q ≡ false
      told false e = refl
      told true e = absurd (true≢false (sym long ∙ good-short (lengths_of x start) x.tables e))

  -- the run over zeros, of which the taint is dropped
  pub zeros-answer : (a b c : List ℕ) (r : Answer) (s : State) → outcome r s ≡ run x (state registers a surfaces b memory c)
      → a ≡ replicate (length registers) 0 → b ≡ replicate (length surfaces) 0 → c ≡ replicate (length memory) 0 → plain_outcome r s.registers.bytes s.memory.bytes ≡ without_marks (plain_run x registers surfaces memory)
  zeros-answer a b c r s ran za zb zc =
      ap without_marks
      (ran ∙ (λ i. run x (state registers (za i) surfaces (zb i) memory (zc i))) ∙ sym (plain-run-is x registers surfaces memory))
