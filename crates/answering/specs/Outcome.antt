-- What is written after a run: by the bench its output, by `verdict` the answer in one line.
use Rattle.std.specs.Prelude.{ℕ, List}
use Rattle.verdict_line.specs.VerdictLine.{verdict_line}
use Rattle.output.specs.Output.{buffer_lines, output_bytes}
use Rattle.run.specs.Answer.{Answer}
use Rattle.run.specs.Run.{Outcome}

-- Document 01, "The bench table": "It writes 40 (number ub, completed uw, position ud), then 01, 05, 08, 0a."
unfoldable pub outcome_output : ℕ → Outcome → List ℕ
outcome_output base o =
    output_bytes o.answer.number o.answer.completed o.answer.position
    (buffer_lines base o.state.registers.bytes o.state.memory.bytes o.state.registers.taint o.state.memory.taint)

-- the answer in one line, with what its number tells (document 02, request 2)
unfoldable pub answer_verdict : Answer → List ℕ
answer_verdict answer = verdict_line answer.number answer.completed answer.position answer.detail
