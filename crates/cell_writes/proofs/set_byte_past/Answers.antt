-- `cell_writes::set_byte_past` meets its contract: one store to each list.
use Rattle.std.proofs.Common.{refl, ◌∙◌}
use Rattle.cells.proofs.WriteLaws.{stored-both}
use Rattle.cell_writes.proofs.FourLaws.{marked_byte}
use Rattle.cell_writes.proofs.set_byte_past.Goals as goal

pub returns : goal.returns
returns c = record {
  bytes = refl;
  taint = refl;
  content = stored-both _ _ _ _ _ _ _ _ c.set_past.ensures (c.from.ensures ∙ marked_byte _) c.set_past-2.ensures;
}
