-- `cell_writes::copy_any` meets its contract.
use Rattle.std.proofs.Common.{◌+◌}
use Rattle.cells.specs.Lent.{viewed}
use Rattle.cells.proofs.WriteLaws.{copy-writes-next, copy-writes-over}
use Rattle.cells.proofs.LentLaws.{leads-turn, leads-over}
use Rattle.cell_writes.proofs.FourLaws.{byte-copied}
use Rattle.cell_writes.proofs.copy_any.Goals as goal

pub loop-k-preserved : goal.loop-k-preserved
loop-k-preserved c =
    leads-turn _ _ _ _ _ _ _ (copy-writes-next _ _ _ c.loop-k.k _ c.loop-k-test.true) (byte-copied (viewed c.args.from) _ _ (c.args.source_at + c.loop-k.k) _ _ _ _ c.byte_past-value.ensures c.byte_past.ensures c.is_tainted-tainted.ensures c.set_byte_past.ensures) c.loop-k.invariant

pub returns : goal.returns
returns c =
    leads-over _ _ _ _ (copy-writes-over _ _ _ c.loop-k.k _ c.loop-k-test.false) c.loop-k.invariant
