-- `scatter_pairs::first_breaking` meets its contract.
use Rattle.std.proofs.Common.{sym, refl, ◌∙◌, arith, ap}
use Rattle.scatter_pairs.specs.Mirror.Search.{detail_found}
use Rattle.scatter_pairs.proofs.SearchLaws.{search-begun, channel-entered, channel-passed, lane-passed, lane-found, lanes-passed, none_found}
use Rattle.scatter_pairs.proofs.first_breaking.Goals as goal
use Rattle.scatter_pairs.proofs.first_breaking.Goals.{then-has_channel+else-lanes-test, else-has_channel}

pub search-init : goal.search-init
search-init c = record { none = refl; left = search-begun _ _ _ _ }

pub lanes-init : goal.lanes-init
lanes-init c =
    record { none = c.search.invariant.none; left = channel-entered _ _ _ _ c.search.channel c.search-test.true (sym c.has_channel.ensures ∙ c.if-has_channel.true) c.search.invariant.left }

pub lanes-preserved : goal.lanes-preserved
lanes-preserved c =
    record { none = c.lanes.invariant.none; left = lane-passed _ _ _ _ _ c.lanes.lane c.lanes-test.true (sym c.lane_breaks.ensures ∙ c.if-lane_breaks.false) c.lanes.invariant.left }

pub search-preserved : goal.search-preserved
search-preserved c =
    elim c.if-has_channel.branch [
      | then-has_channel+else-lanes-test w ↦ record { none = w.found-is ∙ w.lanes.invariant.none; left = lanes-passed _ _ _ _ _ w.lanes.lane w.lanes-test.false w.lanes.invariant.left }
      | else-has_channel w ↦ record { none = w.found-is ∙ c.search.invariant.none; left = channel-passed _ _ _ _ c.search.channel c.search-test.true (sym c.has_channel.ensures ∙ w.if-has_channel.false) c.search.invariant.left }
    ]

pub returns-after-search : goal.returns-after-search
returns-after-search c =
    ap detail_found c.search.invariant.none ∙ none_found _ _ _ _ c.search.channel c.search-test.false c.search.invariant.left

pub returns-then-lane_breaks : goal.returns-then-lane_breaks
returns-then-lane_breaks c =
    lane-found _ _ _ _ _ c.lanes.lane c.lanes-test.true (sym c.lane_breaks.ensures ∙ c.if-lane_breaks.true) c.lanes.invariant.left
