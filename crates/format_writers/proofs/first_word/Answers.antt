-- The word ends in the table.
use Rattle.std.proofs.Common.{sym}
use lib.Seq.{length-take-le}
use Rattle.format_writers.proofs.StartLaws.{first_inside}
use Rattle.format_writers.proofs.first_word.Goals as goal

pub slice_bounds-result-end : goal.slice_bounds-result-end
slice_bounds-result-end c = sym (length-take-le _ _ (first_inside _ _ c.word_end.ensures))
