-- `operand_texts::destination_region_at`: the bounds of the words, whose tables are too long for the check to find them itself.
use Rattle.operand_texts.proofs.BoundLaws.{first-bound, width-bound, behind-bound}
use Rattle.operand_texts.proofs.destination_region_at.Goals as goal

pub stride_word-requires : goal.stride_word-requires
stride_word-requires c = (c.if-first-ge8.true, first-bound _ _ _ _ c.one_of.ensures c.in_ok-first.was)

pub region_word-requires : goal.region_word-requires
region_word-requires c =
    (c.if-first-ge8.false, width-bound _ _ _ _ c.one_of-2.ensures c.in_ok-w.was, behind-bound _ _ _ _ _ _ c.stride_at.ensures c.in_ok-h.was)
