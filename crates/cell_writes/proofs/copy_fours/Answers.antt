-- `cell_writes::copy_fours` meets its contract.
use Rattle.std.proofs.Common.{arith}
use Rattle.cells.proofs.WriteLaws.{copy-writes-over}
use Rattle.cells.proofs.LentLaws.{leads-several, leads-over}
use Rattle.cell_writes.proofs.FourLaws.{fours-next, four-room}
use Rattle.cell_writes.proofs.copy_fours.Goals as goal

pub loop-four-preserved : goal.loop-four-preserved
loop-four-preserved c =
    leads-several _ _ _ _ _ _ _ (fours-next _ _ _ c.loop-four.four _ c.loop-four-test.true) c.copy_four.ensures c.loop-four.invariant

pub returns : goal.returns
returns c =
    leads-over _ _ _ _ (copy-writes-over _ _ _ _ _ (omega (arith, c.requires.1))) c.loop-four.invariant

pub copy_four-requires : goal.copy_four-requires
copy_four-requires c = four-room _ _ _ _ _ c.loop-four.four _ _ _ c.loop-four-test.true c.requires.0 c.loop-four.invariant
