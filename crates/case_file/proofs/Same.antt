-- For every input the bench's lines and the verdict tell one answer: that of one run, or 14 and the bad line.
use mathlib.Core.Path.{refl, sym}
use mathlib.Core.Bool.{cond, ◌||◌}
use mathlib.Core.List.{List, [], map, append-nil}
use Prim.Native.Nat.{ℕ, zero, suc}
use lib.Dec.{eqb}
use Rattle.hex_text.specs.Bytes.{hex_bytes}
use Rattle.line_blocks.specs.LinesOf.{lines_of}
use Rattle.refusal.specs.declared.Detail.TheVariants as detail
use Rattle.output.specs.Output.{answer_line, buffer_lines, output_bytes}
use Rattle.run.specs.Run.{Outcome, run}
use Rattle.answering.specs.Outcome.{outcome_output, answer_verdict}
use Rattle.case_file.specs.BadLine.{first_bad}
use Rattle.case_file.specs.Case.{case_setup, case_state}
use Rattle.case_file.specs.Output.{frames_output, position_of, answered, case_file_output}
use Rattle.case_file.specs.Verdict.{judged, case_file_verdict}
use Rattle.case_file.specs.SameAnswer.{SameAnswer}

run-same : (base : ℕ) (o : Outcome) → SameAnswer (outcome_output base o) (answer_verdict o.answer)
unfolding outcome_output output_bytes answer_verdict
run-same base o =
    record {
      number = o.answer.number;
      completed = o.answer.completed;
      position = o.answer.position;
      told = o.answer.detail;
      buffers = cond (eqb o.answer.number 13 || eqb o.answer.number 14) [] (buffer_lines base o.state.registers.bytes o.state.memory.bytes o.state.registers.taint o.state.memory.taint);
      of-lines = refl;
      of-verdict = refl;
    }

frames-same : (n : ℕ) (frames : List (List ℕ)) → SameAnswer (answered n frames) (judged n frames)
unfolding answered frames_output judged
frames-same zero frames = run-same (case_setup frames).constants.base (run (case_setup frames) (case_state frames))
frames-same (suc n) frames =
    record {
      number = 14;
      completed = 0;
      position = position_of (suc n);
      told = detail.None;
      buffers = [];
      of-lines = sym (append-nil (answer_line 14 0 (position_of (suc n))));
      of-verdict = refl;
    }

pub same_answer : (input : List ℕ) → SameAnswer (case_file_output input) (case_file_verdict input)
unfolding case_file_output case_file_verdict
same_answer input = frames-same (first_bad [] (lines_of input)) (map hex_bytes (lines_of input))
