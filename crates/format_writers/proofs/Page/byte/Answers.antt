-- The two digits are written one after another.
use Rattle.hex_text.specs.Bytes.{hex_of}
use Rattle.format_writers.proofs.PageLaws.{writes_then}
use Rattle.format_writers.proofs.Page.byte.Goals as goal

pub returns : goal.returns
unfolding hex_of
returns c = writes_then c.digit.ensures c.digit-2.ensures
