-- `scatter::scatter` meets its contract.
use Rattle.scatter.proofs.GuardLaws.{scatter-refused}
use Rattle.scatter.proofs.scatter.Goals as goal

pub returns-else-fits : goal.returns-else-fits
returns-else-fits c = scatter-refused _ _ _ _ _ _ c.fits.ensures c.if-fits.false
