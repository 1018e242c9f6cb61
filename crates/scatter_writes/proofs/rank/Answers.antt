-- `scatter_writes::rank` meets its contract.
use Rattle.std.proofs.Common.{sym, arith}
use Rattle.payloads.proofs.ChannelLaws.{enabled-none}
use Rattle.scatter_writes.proofs.RankLaws.{rank-turn}
use Rattle.scatter_writes.proofs.rank.Goals as goal

pub loop-k-init : goal.loop-k-init
loop-k-init c = record { counted = sym (enabled-none _); small = omega arith }

pub loop-k-preserved : goal.loop-k-preserved
loop-k-preserved c = record { counted = rank-turn _ c.loop-k.k _ c.loop-k.invariant.counted; small = omega arith }
