-- A run's outcome, and a case that is not run, written in either form.
use mathlib.Core.Path.{◌≡◌, sym, ap, ◌∙◌}
use mathlib.Core.List.{List}
use Prim.Native.Nat.{ℕ, ◌<◌, ◌≤◌}
use native.Mathlib.Omega.{arith}
use borrow.Author.Tests.{lt-ltb, le-ltb}
use lib.ListN.{length}
use Rattle.tally.specs.declared.Case.{Case}
use Rattle.tally.specs.declared.Unfit.{Unfit}
use Rattle.tally.specs.declared.Unfit.TheVariants as unfit
use Rattle.tally.specs.Mirror.Reading.{Contents, Reading, reading, tables}
use Rattle.tally.specs.Mirror.Verdicts.{Verdict, verdict, number_of, position_of, verdict_of}
use Rattle.refusal.specs.declared.Detail.TheVariants as detail
use Rattle.format_writers.specs.Writing as formats
use Rattle.format_writers.specs.Writing.{wrote}
use Rattle.verdict_line.specs.VerdictLine.{verdict_line}
use Rattle.output.specs.Mirror.Page.{page, written}
use Rattle.output.specs.Output.{answer_line, buffer_lines, output_bytes}
use Rattle.output.proofs.LengthLaws.{length-answer}
use Rattle.step.specs.State.{Setup, State, state}
use Rattle.run.specs.Answer.{Answer}
use Rattle.run.specs.Run.{Outcome, outcome, run}
use Rattle.answering.specs.declared.Form.{Form}
use Rattle.answering.specs.declared.Form.TheVariants as form
use Rattle.answering.specs.Outcome.{outcome_output, answer_verdict}
use Rattle.answering.specs.Mirror.Forms.{outcome_text, refusal_text}
use Rattle.answering.specs.Mirror.Puts.{Puts}
use Rattle.answering.specs.Mirror.Setting.{setup_of, state_of}
use Rattle.answering.specs.Mirror.Bench.{good_output, case_output}
use Rattle.answering.proofs.SamePage.{same-page}
use Rattle.answering.proofs.SizeLaws.{outcome-size}

unfit-number : (u : Unfit) → 0 < number_of u
unfit-number (unfit.BadLine line) = omega arith
unfit-number unfit.Full = omega arith

-- a short text, written as `formats` tells it
short-puts : (t out after : List ℕ) (used : ℕ) → (wrote used after ≡ formats.written out 0 t) × (length t ≤ 67) → Puts t out after used
short-puts t out after used p = record { same = same-page t out after used p.0; small = omega (arith, p.1) }

module _ (f : Form) (out after : List ℕ) (used : ℕ) where
  -- the run's answer, and the buffers as it left them
  module _ (base : ℕ) (a : Answer) (registers register_taint surfaces surface_taint memory memory_taint : List ℕ) (x : Setup) (s : State)
      (e : outcome a (state registers register_taint surfaces surface_taint memory memory_taint) ≡ run x s) where
    pub lines-written : f ≡ form.Lines → page after used ≡ written (output_bytes a.number a.completed a.position (buffer_lines base registers memory register_taint memory_taint)) (page out 0) →
        Puts (outcome_text f base (run x s)) out after used
    unfolding outcome_text outcome_output
    lines-written k h =
        rw k (record { same = h ∙ ap (λ (o : Outcome). written (outcome_output base o) (page out 0)) e; small = outcome-size base x s })

    pub verdict-written : f ≡ form.Verdict → (wrote used after ≡ formats.written out 0 (verdict_line a.number a.completed a.position a.detail)) × (length (verdict_line a.number a.completed a.position a.detail) ≤ 67) →
        Puts (outcome_text f base (run x s)) out after used
    unfolding outcome_text answer_verdict
    verdict-written k h =
        rw (k, ← e) (short-puts (verdict_line a.number a.completed a.position a.detail) out after used h)

  -- 14 or 13
  module _ (number position : ℕ) where
    pub refusal-line : f ≡ form.Lines → page after used ≡ written (answer_line number 0 position) (page out 0) → Puts (refusal_text f number position) out after used
    unfolding refusal_text
    refusal-line k h = rw k (record { same = h; small = omega (arith, length-answer number 0 position) })

    pub refusal-verdict : f ≡ form.Verdict → (wrote used after ≡ formats.written out 0 (verdict_line number 0 position detail.None)) × (length (verdict_line number 0 position detail.None) ≤ 67) →
        Puts (refusal_text f number position) out after used
    unfolding refusal_text
    refusal-verdict k h = rw k (short-puts (verdict_line number 0 position detail.None) out after used h)

  -- the run of a good case; its setup does not look at the surfaces' bytes
  pub good-written : (c : Case) (b : Contents) (types starts counts bits elements surfaces lengths cut : List ℕ) (s : State) →
      s ≡ state_of c b surfaces →
      Puts (outcome_text f c.settings.base (run (setup_of c b.kernel (tables types starts counts bits elements cut lengths)) s)) out after used →
      Puts (good_output f (reading c b (tables types starts counts bits elements surfaces lengths))) out after used
  unfolding good_output setup_of
  good-written c b types starts counts bits elements surfaces lengths cut s e h = rw (← e) h

  pub refused-written : (r : Reading) (u : Unfit) → verdict (number_of u) (position_of u) ≡ verdict_of r.case → Puts (refusal_text f (number_of u) (position_of u)) out after used → Puts (case_output f r) out after used
  unfolding case_output
  refused-written r u e g = rw (← e, lt-ltb 0 (number_of u) (unfit-number u)) g

  pub accepted-written : (r : Reading) (v : Verdict) → v ≡ verdict_of r.case → v.number ≤ 0 → Puts (good_output f r) out after used → Puts (case_output f r) out after used
  unfolding case_output
  accepted-written r v e h g = rw (sym e, le-ltb 0 v.number h) g
