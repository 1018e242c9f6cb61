-- The test is `fits`.
use Rattle.part_writers.proofs.WholeLaws.{whole-fits, whole-not}
use Rattle.part_writers.proofs.put_whole.Goals as goal

pub returns-then-text-out : goal.returns-then-text-out
returns-then-text-out c = whole-not _ _ c.if-text-out.true

pub returns : goal.returns
returns c = whole-fits _ _ _ c.if-text-out.false c.copy_from_slice.ensures.after
