-- What a run keeps: all lengths, the surfaces with their marks, and every byte that no instruction writes, with its mark byte; and that a
-- refused instruction ends it.
use mathlib.Core.Path.{◌≡◌, refl, sym, ◌∙◌}
use mathlib.Core.Bool.{Bool, true, false, cond}
use Prim.Native.Nat.{ℕ, suc, ◌<◌}
use lib.ListN.{length}
use borrow.Author.Tests.{lt-ltb}
use Rattle.little_endian.specs.LittleEndian.{Bytes}
use Rattle.cells.specs.Writes.{written_all}
use Rattle.cells.proofs.WriteLaws.{written-append}
use Rattle.cells.specs.Results.{Kept}
use Rattle.cells.proofs.StayLaws.{writes_at, stays}
use Rattle.cells.proofs.EffectLaws.{nothing_written}
use Rattle.tables.specs.Tables.{tables_good}
use Rattle.step.specs.State.{Setup, State, lengths_of}
use Rattle.step.specs.Step.{Stepped, step_at, after}
use Rattle.step.proofs.Kept.{after-lengths}
use Rattle.run.specs.Run.{Outcome, stopped_with, stopped, run_from, run_through, run}
use Rattle.run.specs.Ran.{Ran, ended, refused_at, went, registers_written, memory_written}
use Rattle.run.proofs.Simulation.{run-keeps}
use Rattle.run.proofs.Whole.{run_is}
use Rattle.run.proofs.Fuel.{run_ran}

-- ---- lengths and surfaces

-- what every effect keeps, a whole run keeps, 13 included
pub whole-keeps : (P : State → Type 0) (x : Setup) (s : State) → ((at : ℕ) (u : State) → P u → P (after (step_at x at u).effect u)) → P s → P (run x s).state
whole-keeps P x s steps h = rw (run_is x s) (told (tables_good (lengths_of x s) x.tables))
  where
    told : (q : Bool) → P (cond q (run_through x s) (stopped 13 0 0 s)).state
    told true = run-keeps P (step_at x) steps (length x.kernel) (length x.kernel) 0 0 s h
    told false = h

pub run-lengths : (x : Setup) (s : State) → lengths_of x (run x s).state ≡ lengths_of x s
run-lengths x s = whole-keeps (λ u. lengths_of x u ≡ lengths_of x s) x s (λ at u e. after-lengths x (step_at x at u).effect u ∙ e) refl

pub run-surfaces : (x : Setup) (s : State) → (run x s).state.surfaces ≡ s.surfaces
run-surfaces x s = whole-keeps (λ u. u.surfaces ≡ s.surfaces) x s (λ at u e. e) refl

-- ---- a refused instruction

-- it ends the run, with its number, what that tells, its position, and the state as it was
pub refused-stops : (step : ℕ → State → Stepped) (end fuel completed at n : ℕ) (s : State) → at < end → (step at s).effect.number ≡ suc n → run_from step end (suc fuel) completed at s ≡ stopped_with (suc n) (step at s).effect.detail completed at s
unfolding run_from
refused-stops step end fuel completed at n s h e = rw (lt-ltb at end h, e)

-- ---- bytes that are not written

-- the state at the end is the state at the start with all that the completed instructions wrote, in order
module _ (step : ℕ → State → Stepped) (end : ℕ) where
  pub ran-registers : {c at : ℕ} {s : State} {r : Outcome} → (p : Ran step end c at s r) → r.state.registers ≡ written_all (registers_written step end p) s.registers
  unfolding registers_written
  ran-registers {c} {at} {s} ended = sym (nothing_written s.registers)
  ran-registers {c} {at} {s} (refused_at h e) = sym (nothing_written s.registers)
  ran-registers {c} {at} {s} (went h e rest) =
      ran-registers rest ∙ sym (written-append (step at s).effect.registers (registers_written step end rest) s.registers)

  pub ran-memory : {c at : ℕ} {s : State} {r : Outcome} → (p : Ran step end c at s r) → r.state.memory ≡ written_all (memory_written step end p) s.memory
  unfolding memory_written
  ran-memory {c} {at} {s} ended = sym (nothing_written s.memory)
  ran-memory {c} {at} {s} (refused_at h e) = sym (nothing_written s.memory)
  ran-memory {c} {at} {s} (went h e rest) =
      ran-memory rest ∙ sym (written-append (step at s).effect.memory (memory_written step end rest) s.memory)

  module _ {c at : ℕ} {s : State} {r : Outcome} (p : Ran step end c at s r) (j : ℕ) where
    pub registers-stay : writes_at (registers_written step end p) j ≡ false → Kept s.registers r.state.registers j
    registers-stay h = rw (ran-registers p) (stays (registers_written step end p) s.registers j h)

    pub memory-stays : writes_at (memory_written step end p) j ≡ false → Kept s.memory r.state.memory j
    memory-stays h = rw (ran-memory p) (stays (memory_written step end p) s.memory j h)

module _ (x : Setup) (s : State) (b : Bytes x.kernel) (good : tables_good (lengths_of x s) x.tables ≡ true) (j : ℕ) where
  pub run-registers-stay : writes_at (registers_written (step_at x) (length x.kernel) (run_ran x s b good)) j ≡ false → Kept s.registers (run x s).state.registers j
  run-registers-stay = registers-stay (step_at x) (length x.kernel) (run_ran x s b good) j

  pub run-memory-stays : writes_at (memory_written (step_at x) (length x.kernel) (run_ran x s b good)) j ≡ false → Kept s.memory (run x s).state.memory j
  run-memory-stays = memory-stays (step_at x) (length x.kernel) (run_ran x s b good) j
