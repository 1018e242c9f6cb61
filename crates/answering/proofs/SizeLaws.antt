-- How long the output is: it is not empty, and buffers are written only where 13 does not refuse their lengths.
use mathlib.Core.Path.{◌≡◌, refl, ap}
use mathlib.Core.Bool.{Bool, true, false, cond}
use mathlib.Core.List.{List, ◌++◌}
use Prim.Native.Nat.{ℕ, ◌≤◌, ◌<◌}
use native.Mathlib.Omega.{arith}
use lib.Dec.{ltb}
use lib.ListN.{length, length-append}
use Rattle.lengths.specs.declared.Lengths.{Lengths}
use Rattle.tables.specs.Tables.{tables_good}
use Rattle.tables.proofs.Laws.{limited}
use Rattle.tally.specs.Mirror.Reading.{Reading}
use Rattle.tally.specs.Mirror.Verdicts.{verdict_of}
use Rattle.feeding.specs.Mirror.Text.{text_read}
use Rattle.output.specs.Output.{answer_line, buffer_lines, output_bytes}
use Rattle.verdict_line.proofs.LineLaws.{verdict-some}
use Rattle.output.proofs.LengthLaws.{length-answer, length-buffers, length-output, length-13}
use Rattle.step.specs.State.{Setup, State, lengths_of}
use Rattle.run.specs.Run.{Outcome, run}
use Rattle.run.proofs.Whole.{tables-refused}
use Rattle.run.proofs.Kept.{run-lengths}
use Rattle.answering.specs.declared.Form.{Form}
use Rattle.answering.specs.declared.Form.TheVariants as form
use Rattle.answering.specs.Outcome.{outcome_output, answer_verdict}
use Rattle.answering.specs.Mirror.Forms.{outcome_text, refusal_text}
use Rattle.answering.specs.Mirror.Bench.{good_output, case_output, unread, bench_output}

-- a line of 17 characters, one of 19 and three of 3, and two for each of 4 times 4,096 bytes
pub outcome-size : (base : ℕ) (x : Setup) (s : State) → length (outcome_output base (run x s)) ≤ 32813
unfolding outcome_output
outcome-size base x s = told (tables_good (lengths_of x s) x.tables) refl
  where
    told : (q : Bool) → tables_good (lengths_of x s) x.tables ≡ q → length (outcome_output base (run x s)) ≤ 32813
    told true good =
        let o = run x s in
        let e = run-lengths x s in
        let l = limited (lengths_of x s) x.tables good in
        let a = ap (λ (m : Lengths). m.registers) e in
        let b = ap (λ (m : Lengths). m.memory) e in
        let c = ap (λ (m : Lengths). m.taint.registers) e in
        let d = ap (λ (m : Lengths). m.taint.memory) e in
        omega (
          arith,
          a,
          b,
          c,
          d,
          l.registers-small,
          l.memory-small,
          l.registers-taint,
          l.memory-taint,
          length-buffers base o.state.registers.bytes o.state.memory.bytes o.state.registers.taint o.state.memory.taint,
          length-output o.answer.number o.answer.completed o.answer.position (buffer_lines base o.state.registers.bytes o.state.memory.bytes o.state.registers.taint o.state.memory.taint),
        )
    told false bad =
        rw (tables-refused x s bad)
        (omega (arith, length-13 0 0 (buffer_lines base s.registers.bytes s.memory.bytes s.registers.taint s.memory.taint)))

answer-first : (number completed position : ℕ) (rest : List ℕ) → 0 < length (answer_line number completed position ++ rest)
answer-first number completed position rest =
    omega (arith, length-append (answer_line number completed position) rest, length-answer number completed position)

outcome-some : (f : Form) (base : ℕ) (o : Outcome) → 0 < length (outcome_text f base o)
unfolding outcome_text outcome_output output_bytes answer_verdict
outcome-some form.Lines base o = answer-first _ _ _ _
outcome-some form.Verdict base o = verdict-some _ _ _ _

refusal-some : (f : Form) (number position : ℕ) → 0 < length (refusal_text f number position)
unfolding refusal_text
refusal-some form.Lines number position = omega (arith, length-answer number 0 position)
refusal-some form.Verdict number position = verdict-some _ _ _ _

case-some : (f : Form) (r : Reading) → 0 < length (case_output f r)
unfolding case_output good_output
case-some f r = told (ltb 0 (verdict_of r.case).number)
  where
    told : (q : Bool) → 0 < length (cond q (refusal_text f (verdict_of r.case).number (verdict_of r.case).position) (good_output f r))
    told true = refusal-some f _ _
    told false = outcome-some f _ _

pub bench-some : (f : Form) (input : List ℕ) → 0 < length (bench_output f input)
unfolding bench_output
bench-some f input = case-some f (text_read 16386 input unread)
