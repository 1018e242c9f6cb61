-- `cell_writes::copy_four` meets its contract.
use Rattle.std.proofs.Common.{refl, ◌∙◌}
use Rattle.cell_writes.proofs.FourLaws.{four-marked, marked_byte}
use Rattle.cell_writes.proofs.copy_four.Goals as goal

pub returns : goal.returns
returns c = record {
  bytes = refl;
  taint = refl;
  content =
      four-marked _ _ _ _ _ _ _ _ _ _ _ _ _ _ _ c.set_four.ensures c.set_four_marks.ensures
      (c.from-first.ensures ∙ marked_byte _) c.is_tainted.ensures
      (c.from-second.ensures ∙ marked_byte _) c.is_tainted-2.ensures
      (c.from-third.ensures ∙ marked_byte _) c.is_tainted-3.ensures
      (c.from-fourth.ensures ∙ marked_byte _) c.is_tainted-4.ensures;
}
