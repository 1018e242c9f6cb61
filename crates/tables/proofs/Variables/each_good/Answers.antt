-- `tables::Variables::each_good` meets its contract: the chain's test is passed where every variable is good.
use Rattle.std.proofs.Common.{rules}
use Rattle.tables.specs.Variables.{variable_good_at}
use Rattle.bits.proofs.Every.{every_is}
use Rattle.tables.proofs.Variables.each_good.Goals as goal

pub returns : goal.returns
unfolding variable_good_at
returns c = every_is _ _ _ (search rules)
