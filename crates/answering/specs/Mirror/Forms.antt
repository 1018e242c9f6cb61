-- What is written of an answer, in each of the two forms.
use Rattle.std.specs.Prelude.{ℕ, List}
use Rattle.refusal.specs.declared.Detail.TheVariants as detail
use Rattle.verdict_line.specs.VerdictLine.{verdict_line}
use Rattle.output.specs.Output.{answer_line}
use Rattle.run.specs.Run.{Outcome}
use Rattle.answering.specs.declared.Form.{Form}
use Rattle.answering.specs.declared.Form.TheVariants as form
use Rattle.answering.specs.Outcome.{outcome_output, answer_verdict}

-- of a run
unfoldable pub outcome_text : Form → ℕ → Outcome → List ℕ
outcome_text form.Lines base o = outcome_output base o
outcome_text form.Verdict base o = answer_verdict o.answer

-- of a case that is not run: 14 or 13, "completed 0"
unfoldable pub refusal_text : Form → ℕ → ℕ → List ℕ
refusal_text form.Lines number position = answer_line number 0 position
refusal_text form.Verdict number position = verdict_line number 0 position detail.None
