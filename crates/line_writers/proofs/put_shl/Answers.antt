-- Its parts are written one after another.
use Rattle.format_writers.proofs.PageLaws.{writes_then, writes_four}
use Rattle.line_writers.proofs.TextLaws.{shl-text}
use Rattle.line_writers.proofs.put_shl.Goals as goal

pub returns : goal.returns
returns c =
    writes_four c.put_exec.ensures (writes_then c.put_destination.ensures c.word.ensures) c.put_spaced_source.ensures c.put_source.ensures (shl-text _ _)
