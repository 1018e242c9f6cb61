-- `answering::write_refusal` meets its contract, in each form.
use Rattle.answering.proofs.WrittenLaws.{refusal-line, refusal-verdict}
use Rattle.answering.proofs.write_refusal.Goals as goal

pub returns-in-Lines : goal.returns-in-Lines
returns-in-Lines c =
    rw (← c.number-number.ensures, ← c.position-position.ensures) (refusal-line _ _ _ _ _ _ c.in-Lines.is c.put_answer.ensures)

pub returns-in-Verdict : goal.returns-in-Verdict
returns-in-Verdict c =
    rw (← c.number-number.ensures, ← c.position-position.ensures) (refusal-verdict _ _ _ _ _ _ c.in-Verdict.is c.put_verdict.ensures)
