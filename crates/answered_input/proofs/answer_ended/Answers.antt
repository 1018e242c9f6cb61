-- Whether the input has ended is what is asked.
use Rattle.std.proofs.Common.{ap, not}
use Rattle.answered_input.proofs.AnswersLaws.{unended-puts, ended-puts}
use Rattle.answered_input.proofs.answer_ended.Goals as goal

pub returns-then-not-ended-clause-answer : goal.returns-then-not-ended-clause-answer
returns-then-not-ended-clause-answer c = unended-puts _ _ _ _ (ap not c.if-not-ended.true)

pub returns-clause-answer : goal.returns-clause-answer
returns-clause-answer c = ended-puts _ _ _ _ _ _ (ap not c.if-not-ended.false) c.answer.ensures
