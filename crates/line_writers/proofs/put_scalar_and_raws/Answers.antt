-- Its parts are written one after another.
use Rattle.format_writers.proofs.PageLaws.{writes_then, writes_three}
use Rattle.line_writers.proofs.TextLaws.{scalar-and-raws-text}
use Rattle.line_writers.proofs.put_scalar_and_raws.Goals as goal

pub returns : goal.returns
returns c = writes_three c.put_spaced_source.ensures (writes_then c.put_raw.ensures c.word.ensures) c.put_raw-2.ensures (scalar-and-raws-text _ _ _)
