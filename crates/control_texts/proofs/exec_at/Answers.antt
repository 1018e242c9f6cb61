-- `control_texts::exec_at`: the bounds of the mask and of the word, whose table is too long for the check to find them itself.
use Rattle.control_texts.proofs.BoundLaws.{mask_bound, size-bound}
use Rattle.control_texts.proofs.exec_at.Goals as goal

pub exec_byte-requires : goal.exec_byte-requires
exec_byte-requires c =
    (mask_bound _ _ _ _ c.mask_at.ensures c.in_ok-mask.was, size-bound _ _ _ _ c.one_of.ensures c.in_ok-size.was)
