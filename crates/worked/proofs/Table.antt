-- Every starred line of the table holds: computed from the definitions.
use mathlib.Core.Path.{refl}
use Rattle.plain_run.specs.PlainRun.{plain_run}
use Rattle.worked.specs.Case.{hex, played, Every}
use Rattle.worked.specs.Region.{last_byte, registers_touched}
use Rattle.worked.specs.Table.{table}
use Rattle.worked.proofs.Opened.{opened}

pub worked : Every table
unfolding opened hex last_byte registers_touched played plain_run
worked = (refl, (refl, (refl, (refl, (refl, (refl, (refl, (refl, (refl, (refl, (refl, (refl, (refl, (refl, (refl, (refl, (refl, (refl, (refl, (refl, (refl, (refl, (refl, (refl, (refl, (refl, tt))))))))))))))))))))))))))
