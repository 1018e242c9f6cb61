-- `shl::shl` meets its contract.
use Rattle.std.proofs.Common.{sym, ◌∙◌}
use borrow.Author.Tests.{not-false}
use Rattle.shl.proofs.RoomLaws.{few-told}
use Rattle.shl.proofs.GuardLaws.{shl-refused, shl-done}
use Rattle.shl.proofs.shl.Goals as goal

pub returns-then-not-fits : goal.returns-then-not-fits
returns-then-not-fits c = shl-refused _ _ _ _ c.fits.ensures c.if-not-fits.true-raw

pub write_lanes-requires : goal.write_lanes-requires
write_lanes-requires c =
    few-told _ (sym c.fits.ensures ∙ not-false _ c.if-not-fits.false-raw) _ c.shape_of-shape.ensures

pub returns : goal.returns
returns c =
    shl-done _ _ _ _ _ _ _ _ _ c.fits.ensures c.if-not-fits.false-raw c.shape_of-shape.ensures c.lanes_of-lanes.ensures c.view.ensures (c.view-2.ensures ∙ c.stage_both-room.ensures) c.write_lanes.ensures
