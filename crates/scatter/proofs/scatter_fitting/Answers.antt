-- `scatter::scatter_fitting` meets its contract.
use Rattle.std.proofs.Common.{◌∙◌}
use Rattle.scatter.proofs.GuardLaws.{scatter-done, layout-few}
use Rattle.scatter.proofs.scatter_fitting.Goals as goal

pub sums_of-worked-requires : goal.sums_of-worked-requires
sums_of-worked-requires c =
    layout-few _ _ c.requires c.layout_for-layout.ensures

pub returns : goal.returns
returns c =
    scatter-done _ _ _ _ c.requires _ _ _ _ _ _ _ _ _ c.lanes_of-lanes.ensures c.layout_for-layout.ensures c.pairs_of.ensures (c.view-view.ensures ∙ c.stage_sources-room.ensures) c.sums_of-worked.ensures c.from_room.ensures
