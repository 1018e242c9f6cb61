-- A scatter whose sources stand in the room, and whose lanes were each worked out once: whether a lane is on, and the sum of its address and
-- its element offset. `proofs/RoomLaws.antt` shows that it is the scatter of `Scatter`, whose sources stand in the registers.
use Rattle.std.specs.Prelude.{◌≡◌, ℕ, ◌+◌, ◌%◌, ◌^◌, ◌<◌, Bool, false, List, [], slice_index, slice_index_or}
use Rattle.refusal.specs.declared.Detail.TheVariants as detail
use Rattle.cells.specs.Buffer.{Buffer}
use Rattle.cells.specs.Effect.{Effect, unless, unless_found, writing}
use Rattle.exec_byte.specs.Exec.{exec_size}
use Rattle.channels.specs.Mirror.Prepared.{is_on}
use Rattle.channels.specs.declared.Lanes.{Lanes}
use Rattle.plan.specs.Plan.{Plan}
use Rattle.payloads.specs.Needed.{scatter_needed}
use Rattle.staging.specs.declared.Layout.{Layout}
use Rattle.staging.specs.Mirror.Room.{layout_of, data_place, data_staged, first_number, second_number}
use Rattle.scatter_effect.specs.Scatter.{Window}
use Rattle.scatter_pairs.specs.declared.Rule.TheVariants as rule
use Rattle.scatter_pairs.specs.declared.Pairs.{Pairs}
use Rattle.scatter_pairs.specs.Mirror.Search.{some_tainted, first_breaking}
use Rattle.scatter_writes.specs.Mirror.Writes.{all_writes}

-- how both addresses' elements stand in the room
abbrev pub layout_for : Plan → Layout
layout_for p = layout_of p.left p.right (exec_size p.control.exec)

-- what of the plan is asked of each pair
abbrev pub pairs_of : Plan → Pairs
pairs_of p =
    record {
      lanes = exec_size p.control.exec;
      channels = p.channels;
      stride = p.stride;
      first = data_place (layout_for p);
    }

-- how the room comes to hold the sources: with the bytes of Src that the enabled channels need
unfoldable pub sources_staged : Buffer → Plan → Buffer
sources_staged registers p =
    data_staged registers p.left p.right (exec_size p.control.exec) (slice_index p.payload.at 0) (scatter_needed p.stride p.control.exec p.channels)

-- ---- of each lane
unfoldable pub lane_sum : List ℕ → Layout → ℕ → ℕ
lane_sum bytes s lane = (first_number bytes s lane + second_number bytes s lane) % 2 ^ 64

-- two lists that have, of every lane, whether it is on and its sum
pub record WorkedOut (bytes : List ℕ) (s : Layout) (lanes : Lanes) (on : List Bool) (sums : List ℕ) : Type 0 where
  pub lane-on : (k : ℕ) → k < s.lanes → slice_index_or on k false ≡ is_on lanes k
  pub lane-sum : (k : ℕ) → k < s.lanes → slice_index sums k ≡ lane_sum bytes s k

-- ---- of the instruction
unfoldable pub room_effect : Window → Layout → Pairs → List Bool → List ℕ → Buffer → Effect
room_effect w l s on sums room =
    unless (some_tainted room.taint l on) 10 detail.None
    (unless_found 11 (first_breaking rule.Aligned s on sums)
    (unless_found 12 (first_breaking (rule.Inside w.base w.length) s on sums)
    (writing [] (all_writes w.base room s on sums))))
