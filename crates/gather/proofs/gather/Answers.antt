-- `gather::gather` meets its contract: refused where the plan does not fit, else all lanes are gathered from the room.
use Rattle.std.proofs.Common.{sym, ◌∙◌}
use borrow.Author.Tests.{not-false}
use Rattle.gather.proofs.RoomLaws.{few-told}
use Rattle.gather.proofs.GuardLaws.{gather-refused, gather-done}
use Rattle.gather.proofs.gather.Goals as goal

pub returns-then-not-fits : goal.returns-then-not-fits
returns-then-not-fits c = gather-refused _ _ _ _ _ c.fits.ensures c.if-not-fits.true-raw

pub gather_lanes-requires : goal.gather_lanes-requires
gather_lanes-requires c =
    few-told _ (sym c.fits.ensures ∙ not-false _ c.if-not-fits.false-raw) _ c.shape_of-shape.ensures

pub returns : goal.returns
returns c =
    gather-done _ _ _ _ c.holds_bytes.ensures _ _ _ _ _ _ c.fits.ensures c.if-not-fits.false-raw c.shape_of-shape.ensures c.lanes_of-lanes.ensures c.view.ensures (c.view-2.ensures ∙ c.stage_both-room.ensures) c.gather_lanes.ensures
