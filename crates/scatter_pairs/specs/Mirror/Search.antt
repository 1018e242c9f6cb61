-- What is asked of the pairs of a scatter whose sources stand in the room, and whose lanes were each worked out once: whether a lane is on, and
-- the sum of its address and its element offset.
use Rattle.std.specs.Prelude.{ℕ, ◌+◌, ◌*◌, ◌%◌, ◌^◌, Bool, false, List, slice_index, slice_index_or, Option, None, Some}
use Rattle.refusal.specs.declared.Detail.{Detail}
use Rattle.refusal.specs.declared.Detail.TheVariants as detail
use Rattle.cells.specs.Over.{among, some, first_pair}
use Rattle.bits.specs.Bits.{bit}
use Rattle.staging.specs.declared.Layout.{Layout}
use Rattle.staging.specs.Mirror.Room.{either_staged}
use Rattle.scatter_pairs.specs.declared.Rule.{Rule}
use Rattle.scatter_pairs.specs.declared.Pair.{Pair}
use Rattle.scatter_pairs.specs.declared.Pairs.{Pairs}
use Rattle.scatter_pairs.specs.Mirror.Rules.{breaks}

unfoldable pub enabled_lanes : List Bool → ℕ → List ℕ
enabled_lanes on lanes = among (λ k. slice_index_or on k false) lanes

unfoldable pub target_from : ℕ → ℕ → ℕ
target_from sum c = (sum + 4 * c) % 2 ^ 64

-- what a search's answer tells
abbrev pub detail_found : Option Pair → Detail
detail_found None = detail.None
detail_found (Some pair) = detail.Pair pair.channel pair.lane

-- the first enabled pair that breaks a rule
unfoldable pub first_breaking : Rule → Pairs → List Bool → List ℕ → Detail
first_breaking rule s on sums = first_pair (λ c i. breaks rule (target_from (slice_index sums i) c)) (among (bit s.channels) 4) (enabled_lanes on s.lanes)

unfoldable pub some_tainted : List ℕ → Layout → List Bool → Bool
some_tainted taint s on = some (either_staged taint s) (enabled_lanes on s.lanes)
