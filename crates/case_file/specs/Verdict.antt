-- The verdict of a case file in one line, over lists alone: the answer of the very run that the bench makes.
use Rattle.std.specs.Prelude.{ℕ, zero, suc, List, [], map}
use Rattle.hex_text.specs.Bytes.{hex_bytes}
use Rattle.line_blocks.specs.LinesOf.{lines_of}
use Rattle.refusal.specs.declared.Detail.TheVariants as detail
use Rattle.verdict_line.specs.VerdictLine.{verdict_line}
use Rattle.run.specs.Run.{run}
use Rattle.answering.specs.Outcome.{answer_verdict}
use Rattle.case_file.specs.BadLine.{first_bad}
use Rattle.case_file.specs.Case.{case_setup, case_state}
use Rattle.case_file.specs.Output.{position_of}

-- Document 01: "14, at the first such line and before any 13: .. completed 0, line number from 1 as position"; otherwise the answer of the case's
-- run, which where sizes are broken is itself 13, "0 and 0"
unfoldable pub judged : ℕ → List (List ℕ) → List ℕ
judged zero frames = answer_verdict (run (case_setup frames) (case_state frames)).answer
judged (suc n) frames = verdict_line 14 0 (position_of (suc n)) detail.None

unfoldable pub case_file_verdict : List ℕ → List ℕ
case_file_verdict input = judged (first_bad [] (lines_of input)) (map hex_bytes (lines_of input))
