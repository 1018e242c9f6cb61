-- `predicate_table::every_count_good` meets its contract: the chain's test is passed where every count is good.
use Rattle.std.proofs.Common.{rules}
use Rattle.predicate_table.specs.Predicates.{count_good_at}
use Rattle.bits.proofs.Every.{every_is}
use Rattle.predicate_table.proofs.every_count_good.Goals as goal

pub returns : goal.returns
unfolding count_good_at
returns c = every_is _ _ _ (search rules)
