-- `cell_writes::set_dword` meets its contract.
use Rattle.std.proofs.Common.{refl, ◌∙◌}
use Rattle.cell_writes.proofs.FourLaws.{dword-set, dword-written, marked_byte}
use Rattle.cell_writes.proofs.set_dword.Goals as goal

pub returns : goal.returns
returns c = record {
  bytes = refl;
  taint = refl;
  content = dword-written _ _ _ _ _ _ _ _ (c.from.ensures ∙ marked_byte _) (dword-set c.args.to.now.bytes.now _ _ c.args.at _ c.to_le_bytes.ensures c.set_four.ensures) c.set_four-2.ensures;
}
