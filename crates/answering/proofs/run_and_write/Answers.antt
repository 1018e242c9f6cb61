-- `answering::run_and_write` meets its contract, in each form.
use Rattle.answering.proofs.WrittenLaws.{lines-written, verdict-written}
use Rattle.answering.proofs.run_and_write.Goals as goal

pub returns-in-Lines : goal.returns-in-Lines
returns-in-Lines c =
    lines-written _ _ _ _ _ _ _ _ _ _ _ _ _ _ c.run_case-answer.ensures.outcome c.in-Lines.is c.write_lines.ensures

pub returns-in-Verdict : goal.returns-in-Verdict
returns-in-Verdict c =
    verdict-written _ _ _ _ _ _ _ _ _ _ _ _ _ _ c.run_case-answer.ensures.outcome c.in-Verdict.is (rw (c.number.ensures, c.detail.ensures) at c.put_verdict.ensures)
