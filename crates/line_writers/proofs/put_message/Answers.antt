-- Its parts are written one after another.
use Rattle.format_writers.proofs.PageLaws.{writes_three}
use Rattle.line_writers.proofs.TextLaws.{message-text}
use Rattle.line_writers.proofs.put_message.Goals as goal

pub returns : goal.returns
returns c =
    writes_three c.put_hexadecimal.ensures c.put_decimal.ensures c.put_decimal-2.ensures
    (rw (c.from-extended.ensures, c.from-sources.ensures, c.from-destinations.ensures) (message-text c.args.m))
