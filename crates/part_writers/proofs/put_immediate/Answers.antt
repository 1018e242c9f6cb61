-- Its parts are written one after another.
use Rattle.format_writers.proofs.PageLaws.{writes_two}
use Rattle.part_writers.proofs.TextLaws.{immediate-text}
use Rattle.part_writers.proofs.put_immediate.Goals as goal

pub returns : goal.returns
returns c = writes_two c.number.ensures c.put_type.ensures (immediate-text _ _ _ c.whole_number-number.ensures c.type_place-place.ensures)
