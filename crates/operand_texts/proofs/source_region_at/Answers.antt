-- `operand_texts::source_region_at`: the bounds of the words, whose tables are too long for the check to find them itself.
use Rattle.operand_texts.proofs.BoundLaws.{vertical-bound, width-bound, stride-bound}
use Rattle.operand_texts.proofs.source_region_at.Goals as goal

pub region_word-requires : goal.region_word-requires
region_word-requires c =
    (vertical-bound _ _ _ _ c.one_of.ensures c.in_ok-v.was, width-bound _ _ _ _ c.one_of-2.ensures c.in_ok-w.was, stride-bound _ _ _ _ c.one_of-3.ensures c.in_ok-h.was)
