-- `text::put_taken` meets its contract: the whole line stands in the text, and is copied if the buffer has room.
use Rattle.std.proofs.Common.{sym, length-take-le, rules}
use Rattle.format_writers.proofs.WritingLaws.{wrote-inside}
use Rattle.text.proofs.PrintingLaws.{taken, line-there, line-printed, line-too-long}
use Rattle.text.proofs.put_taken.Goals as goal

pub slice_bounds-text-end : goal.slice_bounds-text-end
slice_bounds-text-end c = wrote-inside _ _ _ _ _ c.put_line-end.ensures

pub slice_bounds-put_whole-end : goal.slice_bounds-put_whole-end
slice_bounds-put_whole-end c = sym (length-take-le _ _ (wrote-inside _ _ _ _ _ c.put_line-end.ensures))

pub returns-then-put_whole : goal.returns-then-put_whole
returns-then-put_whole c =
    let there = line-there _ _ _ _ c.requires.fits (search rules) c.put_line-end.ensures in
    let p = line-printed _ (taken _ c.requires.taken) _ _ _ _ there.0 there.1 _ c.put_whole.ensures.0 c.put_whole.ensures.1 c.if-put_whole.true in
    record { answer = p.0; line = p.1 }

pub returns-else-put_whole : goal.returns-else-put_whole
returns-else-put_whole c =
    let there = line-there _ _ _ _ c.requires.fits (search rules) c.put_line-end.ensures in
    let p = line-too-long _ (taken _ c.requires.taken) _ _ _ _ there.0 there.1 _ c.put_whole.ensures.0 c.put_whole.ensures.1 c.if-put_whole.false in
    record { answer = p.0; line = p.1 }
