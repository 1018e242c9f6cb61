-- The count is not above the block's length.
use Rattle.std.proofs.Common.{sym}
use Rattle.std.proofs.lemmas.List.{length-take-le}
use Rattle.input.proofs.AnswersLaws.{count-inside}
use Rattle.input.proofs.bytes_of.Goals as goal

pub slice_bounds-result-end : goal.slice_bounds-result-end
slice_bounds-result-end c = sym (length-take-le _ _ (count-inside _ _ _ c.in-Bytes.ensures c.requires))
