-- What the pairs of a scatter write whose sources stand in the room, and whose lanes were each worked out once.
use Rattle.std.specs.Prelude.{ℕ, ◌+◌, ◌*◌, ◌-◌, Bool, List, get_or}
use Rattle.cells.specs.Buffer.{Buffer}
use Rattle.cells.specs.Writes.{Write, copy_writes}
use Rattle.cells.specs.Over.{among, each}
use Rattle.bits.specs.Bits.{bit}
use Rattle.payloads.specs.Needed.{enabled_below}
use Rattle.scatter_pairs.specs.declared.Pairs.{Pairs}
use Rattle.scatter_pairs.specs.Mirror.Search.{target_from, enabled_lanes}

-- the byte of the room where the data of a channel begin
unfoldable pub row_place : Pairs → ℕ → ℕ
row_place s c = s.first + 4 * (enabled_below s.channels c * s.stride)

unfoldable pub pair_writes : ℕ → Buffer → ℕ → ℕ → ℕ → ℕ → List Write
pair_writes base room begin sum c lane = copy_writes room (begin + 4 * lane) (target_from sum c - base) 4

-- what the lanes of one channel write, whose data begin at a place
unfoldable pub row_writes : ℕ → Buffer → ℕ → List Bool → List ℕ → ℕ → ℕ → List Write
row_writes base room begin on sums lanes c = each (λ i. pair_writes base room begin (get_or sums i 0) c i) (enabled_lanes on lanes)

unfoldable pub all_writes : ℕ → Buffer → Pairs → List Bool → List ℕ → List Write
all_writes base room s on sums = each (λ c. row_writes base room (row_place s c) on sums s.lanes c) (among (bit s.channels) 4)
