-- What there is room for is copied.
use Rattle.std.proofs.Common.{refl, arith}
use Rattle.format_writers.proofs.WritingLaws.{text_placed}
use Rattle.format_writers.proofs.Page.text.Goals as goal

pub returns : goal.returns
returns c = record { out = refl; content = rw c.copy_from_slice.ensures.after (text_placed _ _ _ _ _ _ c.min-from.ensures c.min-count.ensures (omega arith)) }
