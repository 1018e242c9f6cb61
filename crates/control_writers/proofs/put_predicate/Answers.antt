-- Nothing for the word 0, else three parts.
use Rattle.format_writers.proofs.PageLaws.{writes_as, writes_three}
use Rattle.control_writers.proofs.TextLaws.{no-predicate, one-predicate}
use Rattle.control_writers.proofs.put_predicate.Goals as goal

pub returns-then-pred-eq0 : goal.returns-then-pred-eq0
returns-then-pred-eq0 c = writes_as c.word.ensures (no-predicate _ c.if-pred-eq0.true)

pub returns : goal.returns
returns c = writes_three c.word-2.ensures c.number.ensures c.put_ending.ensures (one-predicate _ _ c.from-word.ensures c.if-pred-eq0.false)
