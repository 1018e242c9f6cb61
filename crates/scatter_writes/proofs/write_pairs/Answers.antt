-- `scatter_writes::write_pairs` meets its contract.
use Rattle.std.proofs.Common.{refl}
use Rattle.cells.proofs.LentLaws.{leads-begun, lanes-lead, lanes-led}
use Rattle.scatter_writes.proofs.WriteLaws.{rows-begun}
use Rattle.scatter_writes.proofs.write_pairs.Goals as goal

pub loop-channel-init : goal.loop-channel-init
loop-channel-init c = leads-begun _ _ _ (rows-begun _ _ _ _ _)

pub loop-channel-preserved : goal.loop-channel-preserved
loop-channel-preserved c =
    lanes-lead _ _ c.loop-channel.channel _ _ _ _ _ _ c.loop-channel-test.true refl c.write_channel.ensures c.loop-channel.invariant

pub returns : goal.returns
returns c =
    lanes-led _ _ c.loop-channel.channel _ _ _ _ c.loop-channel-test.false c.loop-channel.invariant
