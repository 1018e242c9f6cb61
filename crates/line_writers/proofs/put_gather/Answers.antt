-- Its parts are written one after another.
use Rattle.format_writers.proofs.PageLaws.{writes_five}
use Rattle.line_writers.proofs.TextLaws.{gather-text}
use Rattle.line_writers.proofs.put_gather.Goals as goal

pub returns : goal.returns
returns c =
    writes_five c.word.ensures c.put_exec.ensures c.put_surface.ensures c.put_scalar_and_raws.ensures c.put_gather_braces.ensures
    (rw c.from.ensures (gather-text _ c.args.x))
