-- Where the searches over lanes and channels begin and where they end, in the words of `Search`.
use Rattle.std.proofs.Common.{◌≡◌, ℕ, ◌+◌, ◌-◌, ◌<◌, ◌≤◌, Bool, true, false, ◌&&◌, List, get_or}
use Rattle.refusal.specs.declared.Detail.TheVariants as detail
use Rattle.cells.specs.Over.{among_from, some, first_lane, first_pair}
use Rattle.cells.proofs.SearchLaws.{some-begun}
use Rattle.cells.proofs.AmongLaws.{among-begun}
use Rattle.cells.proofs.FirstLaws.{lane-turn, lane-hit, lane_over, pairs-begun, pairs-enter, pairs-off, pairs-over}
use Rattle.bits.specs.Bits.{bit}
use Rattle.staging.specs.declared.Layout.{Layout}
use Rattle.staging.specs.Mirror.Room.{either_staged}
use Rattle.scatter_pairs.specs.declared.Rule.{Rule}
use Rattle.scatter_pairs.specs.declared.Pairs.{Pairs}
use Rattle.scatter_pairs.specs.Mirror.Rules.{breaks}
use Rattle.scatter_pairs.specs.Mirror.Search.{enabled_lanes, target_from, first_breaking, some_tainted}

pub tainted-begun : (taint : List ℕ) (s : Layout) (on : List Bool) → some (either_staged taint s) (among_from (λ k. get_or on k false) 0 (s.lanes - 0)) ≡ some_tainted taint s on
unfolding some_tainted enabled_lanes
tainted-begun taint s on = some-begun (either_staged taint s) (λ k. get_or on k false) s.lanes

-- what of a search is left is what the whole finds
module _ (rule : Rule) (on : List Bool) (sums : List ℕ) (s : Pairs) where
  -- whether a pair breaks the rule
  abbrev pub pair_breaks : ℕ → ℕ → Bool
  pair_breaks c i = breaks rule (target_from (get_or sums i 0) c)

  -- from a channel on
  abbrev pub ChannelsLeft : ℕ → Type 0
  ChannelsLeft c = first_pair pair_breaks (among_from (bit s.channels) c (4 - c)) (enabled_lanes on s.lanes) ≡ first_breaking rule s on sums

  -- from a lane of a channel on
  abbrev pub LanesLeft : ℕ → ℕ → Type 0
  LanesLeft c i =
      first_lane (pair_breaks c) c (among_from (λ k. get_or on k false) i (s.lanes - i)) (first_pair pair_breaks (among_from (bit s.channels) (c + 1) (4 - (c + 1))) (enabled_lanes on s.lanes))
      ≡ first_breaking rule s on sums

  pub search-begun : ChannelsLeft 0
  unfolding first_breaking
  search-begun = pairs-begun pair_breaks (bit s.channels) (enabled_lanes on s.lanes) 4

  -- a channel that is on, and one that is not
  pub channel-entered : (c : ℕ) → c < 4 → bit s.channels c ≡ true → ChannelsLeft c → LanesLeft c 0
  unfolding enabled_lanes
  channel-entered c h on' e =
      rw (among-begun (λ k. get_or on k false) s.lanes) (pairs-enter pair_breaks (bit s.channels) (enabled_lanes on s.lanes) c 4 _ h on' e)

  pub channel-passed : (c : ℕ) → c < 4 → bit s.channels c ≡ false → ChannelsLeft c → ChannelsLeft (c + 1)
  channel-passed c h off e = pairs-off pair_breaks (bit s.channels) (enabled_lanes on s.lanes) c 4 _ h off e

  pub lane-passed : (c i : ℕ) → i < s.lanes → (get_or on i false && pair_breaks c i) ≡ false → LanesLeft c i → LanesLeft c (i + 1)
  lane-passed c i h miss e = lane-turn (pair_breaks c) (λ k. get_or on k false) c _ i s.lanes _ h miss e

  pub lane-found : (c i : ℕ) → i < s.lanes → (get_or on i false && pair_breaks c i) ≡ true → LanesLeft c i → detail.Pair c i ≡ first_breaking rule s on sums
  lane-found c i h hit e = lane-hit (pair_breaks c) (λ k. get_or on k false) c _ i s.lanes _ h hit e

  pub lanes-passed : (c i : ℕ) → s.lanes ≤ i → LanesLeft c i → ChannelsLeft (c + 1)
  lanes-passed c i h e = lane_over (pair_breaks c) (λ k. get_or on k false) c _ i s.lanes _ h e

  pub none_found : (c : ℕ) → 4 ≤ c → ChannelsLeft c → detail.None ≡ first_breaking rule s on sums
  none_found c h e = pairs-over pair_breaks (bit s.channels) (enabled_lanes on s.lanes) c 4 _ h e
