-- One digit, or the digits before the last one and then the last.
use Rattle.format_writers.proofs.DigitLaws.{one_digit, last_digit}
use Rattle.format_writers.proofs.PageLaws.{writes_as, writes_then}
use Rattle.format_writers.proofs.Page.+digits.Goals as goal

pub returns-then-n-base : goal.returns-then-n-base
returns-then-n-base t c = writes_as c.digit.ensures (one_digit c.args.base c.args.n c.requires.0 c.requires.1 c.if-n-base.true)

pub returns-else-n-base : goal.returns-else-n-base
returns-else-n-base t c = writes_as (writes_then c.digits.ensures c.digit-else-n-base.ensures) (last_digit c.args.base c.args.n c.requires.0 c.requires.1 c.if-n-base.false)
