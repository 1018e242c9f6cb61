-- `surface_table::every_surface_good` meets its contract: the chain's test is passed where every surface is good.
use Rattle.std.proofs.Common.{rules}
use Rattle.surface_table.specs.Surfaces.{surface_length, surface_good_at}
use Rattle.bits.proofs.Every.{every_is}
use Rattle.surface_table.proofs.every_surface_good.Goals as goal

pub returns : goal.returns
unfolding surface_good_at surface_length
returns c = every_is _ _ _ (search rules)
