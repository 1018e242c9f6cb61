-- Its parts are written one after another.
use Rattle.format_writers.proofs.PageLaws.{writes_two}
use Rattle.line_writers.proofs.TextLaws.{destination-text}
use Rattle.line_writers.proofs.put_destination.Goals as goal

pub returns : goal.returns
returns c = writes_two c.put_general.ensures c.put_destination_region.ensures (destination-text _ _ c.as_general-g.ensures)
