-- Its parts are written one after another.
use Rattle.format_writers.proofs.PageLaws.{writes_two}
use Rattle.control_writers.proofs.TextLaws.{exec-text}
use Rattle.control_writers.proofs.put_exec.Goals as goal

pub returns : goal.returns
returns c = writes_two c.put_mask.ensures c.word.ensures (exec-text _ _ _ _ c.split-e.ensures c.mask_place.ensures c.size_place.ensures)
