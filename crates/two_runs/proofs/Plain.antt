-- Marks change nothing but marks, and 10: a run lent no marks ends with no marks, and a marked run that answers neither 10 nor 13 gives the
-- same answer and the same bytes as the plain run of the same kernel and bytes.
use mathlib.Core.Path.{◌≡◌, refl, sym, ◌∙◌}
use mathlib.Core.Logic.{◌≢◌}
use mathlib.Core.Bool.{Bool, true, false, cond}
use Prim.Native.Nat.{ℕ, zero, suc}
use native.Mathlib.Omega.{arith}
use lib.ListN.{length, get_or, replicate, length-replicate}
use Rattle.cells.specs.Buffer.{Buffer}
use Rattle.cells.proofs.Plain.{Plainly, bytes_same}
use Rattle.tables.specs.Tables.{tables_good}
use Rattle.lengths.proofs.Limits.{Limited}
use Rattle.tables.proofs.Laws.{limited}
use Rattle.step.specs.State.{Setup, State, lengths_of}
use Rattle.step.specs.Step.{step_at, after}
use Rattle.step.proofs.Kept.{refused-step-keeps}
use Rattle.step.proofs.Plain.{PlainStates, step-plain}
use Rattle.run.specs.Run.{Outcome, stopped, run_through, run}
use Rattle.plain_run.specs.PlainRun.{unmarked}
use Rattle.run.proofs.Simulation.{run-keeps, runs-same-where}
use Rattle.run.proofs.Whole.{run_is}
use Rattle.plain_run.proofs.PlainRunLaws.{plain-run-is}
use Rattle.two_runs.specs.Plain.{NoMarks, plainly, SameAnswerAndBytes}

-- ---- no marks stay no marks

-- a buffer with no marks, beside itself
beside-itself : (b : Buffer) → length b.taint ≡ length b.bytes → ((i : ℕ) → get_or b.taint i 0 ≡ 0) → Plainly b b
beside-itself b e z = record { taint = e; bytes' = refl; taint' = e; cells = λ i. (refl, z i) }

step_keeps : (x : Setup) (at : ℕ) (s : State) → PlainStates s s → PlainStates (after (step_at x at s).effect s) (after (step_at x at s).effect s)
step_keeps x at s r = told (step_at x at s).effect.number refl
  where
    told : (n : ℕ) → (step_at x at s).effect.number ≡ n → PlainStates (after (step_at x at s).effect s) (after (step_at x at s).effect s)
    told zero e = (step-plain x at s s r (λ (h : (step_at x at s).effect.number ≡ 10). omega (arith, e, h))).state
    told (suc n) e = rw (refused-step-keeps x at s (λ (h : (step_at x at s).effect.number ≡ 0). omega (arith, e, h))) r

module _ (x : Setup) (s : State) where
  judged-unmarked : (q : Bool) → tables_good (lengths_of x s) x.tables ≡ q → NoMarks s → NoMarks (cond q (run_through x s) (stopped 13 0 0 s)).state
  judged-unmarked true good z =
      let l = limited (lengths_of x s) x.tables good in
      let r = run-keeps (λ u. PlainStates u u) (step_at x) (step_keeps x) (length x.kernel) (length x.kernel) 0 0 s (record {
        registers = beside-itself s.registers l.registers-taint z.registers;
        surfaces = beside-itself s.surfaces l.surfaces-taint z.surfaces;
        memory = beside-itself s.memory l.memory-taint z.memory;
      }) in
      record {
        registers = λ i. (r.registers.cells i).1;
        surfaces = λ i. (r.surfaces.cells i).1;
        memory = λ i. (r.memory.cells i).1;
      }
  judged-unmarked false good z = z

  pub unmarked-stays : NoMarks s → NoMarks (run x s).state
  unmarked-stays z = rw (run_is x s) (judged-unmarked (tables_good (lengths_of x s) x.tables) refl z)

-- ---- the marked run and the plain run

zero-everywhere : (n i : ℕ) → ◌≡◌ {A = ℕ} (get_or (replicate n 0) i 0) 0
zero-everywhere zero i = refl
zero-everywhere (suc n) zero = refl
zero-everywhere (suc n) (suc i) = zero-everywhere n i

beside-unmarked : (b : Buffer) → length b.taint ≡ length b.bytes → Plainly b (unmarked b.bytes)
beside-unmarked b e =
    record {
      taint = e;
      bytes' = refl;
      taint' = length-replicate (length b.bytes) 0;
      cells = λ i. (refl, zero-everywhere (length b.bytes) i);
    }

abbrev without-marks : State → State
without-marks s = record { registers = unmarked s.registers.bytes; surfaces = unmarked s.surfaces.bytes; memory = unmarked s.memory.bytes }

unmarked-length : (b : Buffer) → length b.taint ≡ length b.bytes → length b.taint ≡ length (unmarked b.bytes).taint
unmarked-length b e = e ∙ sym (length-replicate (length b.bytes) 0)

lengths-unmarked : (x : Setup) (s : State) → Limited (lengths_of x s) → lengths_of x s ≡ lengths_of x (without-marks s)
lengths-unmarked x s l =
    λ i.
    record {
      kernel = length x.kernel;
      registers = length s.registers.bytes;
      surfaces = length s.surfaces.bytes;
      memory = length s.memory.bytes;
      base = x.constants.base;
      register_size = x.constants.register_size;
      taint = record {
        registers = unmarked-length s.registers l.registers-taint i;
        surfaces = unmarked-length s.surfaces l.surfaces-taint i;
        memory = unmarked-length s.memory l.memory-taint i;
      };
    }

module _ (x : Setup) (s : State) where
  abbrev judged : Bool → State → Outcome
  judged q u = cond q (run_through x u) (stopped 13 0 0 u)

  started-same : Limited (lengths_of x s) → (judged true s).answer.number ≢ 10 → SameAnswerAndBytes (judged true s) (judged true (without-marks s))
  started-same l sure =
      let r = runs-same-where PlainStates (λ n. n ≢ 10) (λ (h : ◌≡◌ {A = ℕ} 0 10). omega arith) (step_at x) (step_at x) (step-plain x) (length x.kernel) (length x.kernel) 0 0 s (without-marks s) (record {
        registers = beside-unmarked s.registers l.registers-taint;
        surfaces = beside-unmarked s.surfaces l.surfaces-taint;
        memory = beside-unmarked s.memory l.memory-taint;
      }) sure in
      record {
        answer = r.answer;
        registers = bytes_same r.state.registers;
        surfaces = bytes_same r.state.surfaces;
        memory = bytes_same r.state.memory;
      }

  judged-same : (q : Bool) → tables_good (lengths_of x s) x.tables ≡ q → (judged q s).answer.number ≢ 10 → (judged q s).answer.number ≢ 13 → SameAnswerAndBytes (judged q s) (run x (without-marks s))
  judged-same true good sure tables =
      let l = limited (lengths_of x s) x.tables good in
      rw (run_is x (without-marks s), ← lengths-unmarked x s l, good) (started-same l sure)
  judged-same false good sure tables = absurd (tables refl)

  pub marked-as-plain : (run x s).answer.number ≢ 10 → (run x s).answer.number ≢ 13 → SameAnswerAndBytes (run x s) (plainly x s)
  marked-as-plain = rw (plain-run-is x s.registers.bytes s.surfaces.bytes s.memory.bytes, run_is x s) (judged-same (tables_good (lengths_of x s) x.tables) refl)
