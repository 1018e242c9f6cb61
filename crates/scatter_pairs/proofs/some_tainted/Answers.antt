-- `scatter_pairs::some_tainted` meets its contract.
use Rattle.cells.proofs.SearchLaws.{some_more, some-all}
use Rattle.scatter_pairs.proofs.SearchLaws.{tainted-begun}
use Rattle.scatter_pairs.proofs.some_tainted.Goals as goal

pub loop-lane-init : goal.loop-lane-init
loop-lane-init c = tainted-begun _ _ _

pub loop-lane-preserved : goal.loop-lane-preserved
loop-lane-preserved c =
    some_more _ _ c.loop-lane.lane _ c.loop-lane.found _ _ c.loop-lane-test.true c.lane_tainted-found.ensures c.loop-lane.invariant

pub returns : goal.returns
returns c = some-all _ _ c.loop-lane.lane _ c.loop-lane.found _ c.loop-lane-test.false c.loop-lane.invariant
