-- What one completed instruction leaves, where tables and lengths are good: the defined results, and nothing else changed.
use Prim.Native.Nat.{ℕ, ◌≤◌}
use mathlib.Core.Path.{◌≡◌, refl, sym, ap, subst, ◌∙◌}
use mathlib.Core.Bool.{Bool, true, false}
use native.Mathlib.Omega.{arith}
use lib.Dec.{eqb}
use lib.ListN.{length}
use borrow.Author.Tests.{eqb-true, eqb-false}
use Rattle.little_endian.specs.LittleEndian.{Bytes}
use Rattle.reader.specs.Reply as reply
use Rattle.reader.specs.Reply.{Reply, Read, got}
use Rattle.cells.specs.Effect.{Effect}
use Rattle.exec_byte.specs.Exec.{exec_size}
use Rattle.decoder.specs.declared.Instruction.{Instruction}
use Rattle.decoder.specs.Decoding.{instruction_at}
use Rattle.decoder.proofs.DecodeEncode.{refusal-not-zero}
use Rattle.tables.specs.Tables.{tables_good}
use Rattle.tables.proofs.Laws.{limited}
use Rattle.lengths.proofs.Limits.{chosen-good}
use Rattle.plan.specs.Plan.{Plan}
use Rattle.plan.specs.Operation.{Operation}
use Rattle.plan.specs.Operation as operation
use Rattle.plan.specs.Checked.{checked}
use Rattle.plan.proofs.PlanLaws.{SoundFor, Sound, plan-sound}
use Rattle.shl_effect.proofs.LaneResults as shl
use Rattle.shl_effect.proofs.Refusal.{shl-spares-memory}
use Rattle.gather_effect.proofs.LaneResults as gather
use Rattle.gather_effect.proofs.Refusal.{gather-spares-memory}
use Rattle.scatter_effect.proofs.PairResults as scatter
use Rattle.scatter_effect.proofs.Refusal.{scatter-spares-registers}
use Rattle.step.specs.State.{Setup, State, register_bytes, lengths_of}
use Rattle.step.specs.Step.{acted, plan_effect, Stepped, step_at, after}
use Rattle.step.specs.Leaves.{ResultsFor, Leaves}
use Rattle.step.specs.Completes.{Completes}
use Rattle.step.proofs.StepOf.{step_of}
use Rattle.step.proofs.Unwritten.{unwritten}
use Rattle.step.proofs.Kept.{after-lengths}
use Rattle.step.proofs.FirstFailing.{step-number}
use Rattle.step.proofs.AcceptedLaws.{plan-refuses, plan-passes}

-- the step at an instruction
step_is : (x : Setup) (s : State) (at : ℕ) (i : Instruction) (next : ℕ) → instruction_at x.kernel at ≡ got i next
    → step_at x at s ≡ record { next = next; effect = plan_effect x.constants (checked (register_bytes x) x.tables i) s }
unfolding step_at
step_is x s at i next is = ap (step_of x (λ (p : Plan). plan_effect x.constants p s) at) is

module _ (x : Setup) (s : State) (good : tables_good (lengths_of x s) x.tables ≡ true) where
  acted-results : (o : Operation) (p : Plan) → exec_size p.control.exec ≤ 32 → SoundFor o (length s.registers.bytes) (length s.surfaces.bytes) p
      → (acted x.constants o p s).number ≡ 0 → ResultsFor o x p s (after (acted x.constants o p s) s)
  unfolding acted
  acted-results operation.Shl p few sound done =
      (shl.shl-results (length s.registers.bytes) x.constants.mask p few sound s.registers refl (limited (lengths_of x s) x.tables good).registers-taint, unwritten _ s.memory (shl-spares-memory p _ s.registers))
  acted-results operation.Gather p few sound done =
      (gather.gather-results (length s.registers.bytes) (length s.surfaces.bytes) x.constants.mask p few sound s.registers s.surfaces refl (limited (lengths_of x s) x.tables good).registers-taint, unwritten _ s.memory (gather-spares-memory p _ s.registers s.surfaces))
  acted-results operation.Scatter p few sound done =
      (scatter.scatter-results _ x.constants.mask p s.registers s.memory refl (limited (lengths_of x s) x.tables good).memory-taint done, unwritten _ s.registers (scatter-spares-registers _ p _ s.registers))
  acted-results operation.Refused p few sound done = absurd sound

  -- a plan that is not refused has number 0, and its effect is that of its operation
  accepted : (p : Plan) → (plan_effect x.constants p s).number ≡ 0 → p.number ≡ 0
  unfolding plan_effect
  accepted p done = told (eqb p.number 0) refl
    where
      told : (q : Bool) → eqb p.number 0 ≡ q → p.number ≡ 0
      told true e = eqb-true p.number 0 e
      told false e = sym (ap (λ (f : Effect). f.number) (plan-refuses p (acted x.constants p.operation p s) (omega (arith, eqb-false p.number 0 e)))) ∙ done

  acts : (p : Plan) → p.number ≡ 0 → plan_effect x.constants p s ≡ acted x.constants p.operation p s
  unfolding plan_effect
  acts p zero = plan-passes p _ zero

  plan-leaves : (p : Plan) → Sound (length s.registers.bytes) (length s.surfaces.bytes) p → p.number ≡ 0 → (plan_effect x.constants p s).number ≡ 0
      → Leaves x p s (after (plan_effect x.constants p s) s)
  plan-leaves p sound zero done =
      let is = acts p zero in
      record {
        results = subst (λ (e : Effect). ResultsFor p.operation x p s (after e s)) (sym is)
            (acted-results p.operation p (omega (arith, sound.lanes)) sound.operands (sym (ap (λ (e : Effect). e.number) is) ∙ done));
        surfaces = refl;
        lengths = after-lengths x (plan_effect x.constants p s) s;
      }

  -- by the size that is chosen, which is the one that the tables were judged by
  chosen-sound : (i : Instruction) → (checked (register_bytes x) x.tables i).number ≡ 0
      → Sound (length s.registers.bytes) (length s.surfaces.bytes) (checked (register_bytes x) x.tables i)
  chosen-sound i =
      subst (λ (n : ℕ). (checked n x.tables i).number ≡ 0 → Sound (length s.registers.bytes) (length s.surfaces.bytes) (checked n x.tables i))
      (sym (chosen-good x.constants.register_size (limited (lengths_of x s) x.tables good).size-good))
      (plan-sound (lengths_of x s) x.tables good i)

  -- the instruction at a position, decoded and not refused
  step-leaves : (at : ℕ) (i : Instruction) (next : ℕ) → instruction_at x.kernel at ≡ got i next → (step_at x at s).effect.number ≡ 0
      → Leaves x (checked (register_bytes x) x.tables i) s (after (step_at x at s).effect s)
  step-leaves at i next is done =
      let p = checked (register_bytes x) x.tables i in
      let effect : (step_at x at s).effect ≡ plan_effect x.constants p s = ap (λ (t : Stepped). t.effect) (step_is x s at i next is) in
      let done' : (plan_effect x.constants p s).number ≡ 0 = sym (ap (λ (e : Effect). e.number) effect) ∙ done in
      let zero : p.number ≡ 0 = accepted p done' in
      subst (λ (e : Effect). Leaves x p s (after e s)) (sym effect)
      (plan-leaves p (chosen-sound i zero) zero done')

  -- a step that is not refused
  pub step-completes : Bytes x.kernel → (at : ℕ) → (step_at x at s).effect.number ≡ 0 → Completes x at s (step_at x at s).next (after (step_at x at s).effect s)
  unfolding step_at
  step-completes b at done = told (instruction_at x.kernel at) refl
    where
      told : (d : Reply (Read Instruction)) → instruction_at x.kernel at ≡ d → Completes x at s (step_at x at s).next (after (step_at x at s).effect s)
      told (reply.refused n) e =
          absurd (refusal-not-zero x.kernel at n b e (sym (ap (λ (d : Reply (Read Instruction)). (step_of x (λ (p : Plan). plan_effect x.constants p s) at d).effect.number) e) ∙ done))
      told (reply.done i) e =
          record {
            instruction = i.value;
            decodes = e ∙ ap (λ (n : ℕ). got i.value n) (sym (ap (λ (t : Stepped). t.next) (step_is x s at i.value i.next e)));
            passes = sym (step-number x s at) ∙ done;
            leaves = step-leaves at i.value i.next e done;
          }
