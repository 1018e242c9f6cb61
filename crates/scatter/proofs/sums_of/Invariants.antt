use Rattle.std.proofs.Common.{◌≡◌, ℕ, ◌<◌, false, length, get_or}
use Rattle.channels.specs.Mirror.Prepared.{is_on}
use Rattle.scatter.specs.Mirror.FromRoom.{lane_sum}
use Rattle.scatter.proofs.sums_of.Given as goal

abbrev pub invariant-loop-lane : goal.invariant-loop-lane
invariant-loop-lane l = record {
  lanes-on : (k : ℕ) → k < l.lane → get_or l.on k false ≡ is_on l.lanes k;
  lane-sums : (k : ℕ) → k < l.lane → get_or l.sums k 0 ≡ lane_sum l.room.bytes.now l.layout k;
  on : length l.on ≡ 16;
  sums : length l.sums ≡ 16;
}
