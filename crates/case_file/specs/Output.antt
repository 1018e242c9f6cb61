-- What the bench writes for a case file, over lists alone. Document 01, "The bench table".
use Rattle.std.specs.Prelude.{ℕ, zero, suc, min, List, [], map}
use Rattle.hex_text.specs.Bytes.{hex_bytes}
use Rattle.line_blocks.specs.LinesOf.{lines_of}
use Rattle.output.specs.Output.{answer_line}
use Rattle.run.specs.Run.{run}
use Rattle.answering.specs.Outcome.{outcome_output}
use Rattle.case_file.specs.BadLine.{first_bad}
use Rattle.case_file.specs.Case.{case_setup, case_state}

-- the run of the case; where sizes are broken the run itself answers 13, "position 0"
unfoldable pub frames_output : List (List ℕ) → List ℕ
frames_output frames = outcome_output (case_setup frames).constants.base (run (case_setup frames) (case_state frames))

-- "position ud": a line number past the largest ud is told as that (docs/DECISIONS.md, Line numbers)
unfoldable pub position_of : ℕ → ℕ
position_of line = min line 0xffffffff

-- "14, at the first such line and before any 13: only the 40 line, completed 0, line number from 1 as position"
unfoldable pub answered : ℕ → List (List ℕ) → List ℕ
answered zero frames = frames_output frames
answered (suc n) frames = answer_line 14 0 (position_of (suc n))

-- "The bench program reads standard input": what it writes for these bytes
unfoldable pub case_file_output : List ℕ → List ℕ
case_file_output input = answered (first_bad [] (lines_of input)) (map hex_bytes (lines_of input))
