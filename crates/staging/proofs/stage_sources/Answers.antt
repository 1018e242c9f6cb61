-- `staging::stage_sources` meets its contract: one source after the other.
use Rattle.staging.proofs.StageLaws.{both_told}
use Rattle.staging.proofs.stage_sources.Goals as goal

pub returns : goal.returns
returns c =
    both_told _ _ _ _ _ _ _ _ _ _ c.layout_of-layout.ensures c.first_place-begin.ensures c.second_place-next.ensures c.stage.ensures c.stage-2.ensures
