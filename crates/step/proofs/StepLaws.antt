-- What one step leaves: the answer and the state of the definition's step.
use mathlib.Core.Path.{◌≡◌, refl, sym, ap, subst, ◌∙◌}
use mathlib.Core.List.{[]}
use Prim.Native.Nat.{ℕ}
use borrow.Author.Tests.{ltb-true}
use Rattle.std.specs.Prelude.{Result, Ok, Err, IsErr, IsErrAnd}
use Rattle.refusal.specs.declared.Detail.{Detail}
use Rattle.refusal.specs.declared.Detail.TheVariants as detail
use Rattle.refusal.specs.declared.Refusal.{Refusal}
use Rattle.refusal.specs.Numbers.{number_of, detail_of, number_given, detail_given}
use Rattle.refusal.proofs.RuleLaws.{number_some}
use Rattle.cells.specs.Effect.{Effect, refused}
use Rattle.reader.specs.declared.Cursor.{Cursor}
use Rattle.reader.specs.Reply as reply
use Rattle.reader.specs.Reply.{Reply, Read, reply}
use Rattle.decoder.specs.declared.Instruction.{Instruction}
use Rattle.decoder.specs.Decoding.{instruction_at}
use Rattle.decoder.proofs.RefusalNumbers.{refusal-at-most-four}
use Rattle.plan.specs.declared.Plan as code
use Rattle.plan.specs.Plan.{Plan}
use Rattle.plan.specs.Planned.{plan_of, planned}
use Rattle.plan.specs.Plans.{refused_plan}
use Rattle.plan.specs.Checked.{checked}
use Rattle.step.specs.State.{Setup, State, register_bytes}
use Rattle.step.specs.declared.Stopped.{Stopped}
use Rattle.step.specs.Step.{plan_effect, Stepped, step_at, after}
use Rattle.step.specs.Borrowed.{Answers}
use Rattle.step.proofs.StepOf.{step_of}
use Rattle.step.proofs.Unwritten.{unwritten}
use Rattle.step.proofs.AcceptedLaws.{plan-refuses}
use Rattle.step.proofs.SmallLaws.{small-tells-nothing}

-- what the code answers of a step from this state, and the state that it leaves, are the step's
abbrev pub Takes : State → Stepped → Result ℕ Stopped → State → Type 0
Takes s t r u = Answers r t × (u ≡ after t.effect s)

-- a refusal, with where the next step would begin
abbrev pub stopped : Refusal → ℕ → Stopped
stopped r next = record { refusal = r; next = next }

module _ (x : Setup) (at : ℕ) (s : State) where
  stepped : (d : Reply (Read Instruction)) → instruction_at x.kernel at ≡ d
      → step_of x (λ (p : Plan). plan_effect x.constants p s) at d ≡ step_at x at s
  unfolding step_at
  stepped d e = ap (step_of x (λ (p : Plan). plan_effect x.constants p s) at) (sym e)

  unchanged : (n : ℕ) (d : Detail) → after (refused n d) s ≡ s
  unchanged n d = λ i. record { registers = unwritten [] s.registers refl i; surfaces = s.surfaces; memory = unwritten [] s.memory refl i }

  -- a refusal writes nothing
  stops : (r : Refusal) (next : ℕ) (d : Detail) → detail_of r ≡ d → Takes s (record { next = next; effect = refused (number_of r) d }) (Err (stopped r next)) s
  stops r next d tells = (record { number = refl; detail = tells; next = refl }, sym (unchanged (number_of r) d))

  module _ (d : Result (Instruction × Cursor) Refusal) (told : reply d ≡ instruction_at x.kernel at) where
    pub undecoded : (r : Refusal) → d ≡ Err r → Takes s (step_at x at s) (Err (stopped r at)) s
    undecoded r is =
        let e : instruction_at x.kernel at ≡ reply.refused (number_of r) = sym told ∙ ap reply is in
        subst (λ (t : Stepped). Takes s t (Err (stopped r at)) s) (stepped _ e)
        (stops r at detail.None (small-tells-nothing r (refusal-at-most-four x.kernel at (number_of r) e)))

    module _ (i : Instruction) (c : Cursor) (is : d ≡ Ok (i, c)) (w : Result code.Plan Refusal) (plan : planned w ≡ checked (register_bytes x) x.tables i) where
      goes : (r : Result ℕ Stopped) (u : State) → Takes s (record { next = c.at; effect = plan_effect x.constants (planned w) s }) r u → Takes s (step_at x at s) r u
      goes r u =
          subst (λ (t : Stepped). Takes s t r u)
          (ap (λ (p : Plan). record { next = c.at; effect = plan_effect x.constants p s }) plan ∙ stepped (reply (Ok (i, c))) (sym told ∙ ap reply is))

      pub refused-before : (r : Refusal) → w ≡ Err r → Takes s (step_at x at s) (Err (stopped r c.at)) s
      unfolding plan_effect refused_plan
      refused-before r e =
          goes (Err (stopped r c.at)) s
          (subst (λ (f : Effect). Takes s (record { next = c.at; effect = f }) (Err (stopped r c.at)) s)
          (sym (plan-refuses (planned (Err r)) _ (ltb-true 0 (number_of r) (number_some r))) ∙ ap (λ (v : Result code.Plan Refusal). plan_effect x.constants (planned v) s) (sym e))
          (stops r c.at (detail_of r) refl))

      module _ (p : code.Plan) (accepted : w ≡ Ok p) (v : Result (Unit {0}) Refusal) (u : State)
          (given : (number_given v ≡ (plan_effect x.constants (plan_of p) s).number) × (detail_given v ≡ (plan_effect x.constants (plan_of p) s).detail)) (left : u ≡ after (plan_effect x.constants (plan_of p) s) s) where
        acts : (r : Result ℕ Stopped) → Takes s (record { next = c.at; effect = plan_effect x.constants (plan_of p) s }) r u → Takes s (step_at x at s) r u
        acts r t =
            goes r u (subst (λ (y : Result code.Plan Refusal). Takes s (record { next = c.at; effect = plan_effect x.constants (planned y) s }) r u) (sym accepted) t)

        pub refused-then : (r : Refusal) → v ≡ Err r → Takes s (step_at x at s) (Err (stopped r c.at)) u
        refused-then r e =
            acts (Err (stopped r c.at)) (record { number = ap (λ (y : Result (Unit {0}) Refusal). number_given y) (sym e) ∙ given.0; detail = ap (λ (y : Result (Unit {0}) Refusal). detail_given y) (sym e) ∙ given.1; next = refl }, left)

        pub advances : v ≡ Ok tt → Takes s (step_at x at s) (Ok c.at) u
        advances e =
            acts (Ok c.at) (record { number = ap (λ (y : Result (Unit {0}) Refusal). number_given y) (sym e) ∙ given.0; detail = ap (λ (y : Result (Unit {0}) Refusal). detail_given y) (sym e) ∙ given.1; next = refl }, left)
