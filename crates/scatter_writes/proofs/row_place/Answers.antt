-- `scatter_writes::row_place` meets its contract: a product of bytes fits.
use Rattle.std.proofs.Common.{arith, refl, ◌∙◌}
use Rattle.staging.proofs.Products.{product_small}
use Rattle.scatter_writes.proofs.WriteLaws.{row_told}
use Rattle.scatter_writes.proofs.row_place.Goals as goal

pub returns : goal.returns
returns c =
    (row_told c.args.pairs c.args.channel _ _ (c.from-below.ensures ∙ c.rank.ensures) (rw c.from.ensures refl), omega (arith, c.from.ensures, c.from-below.ensures, product_small c.from-below.result c.from.result (omega (arith, c.from-below.ensures)) (omega (arith, c.from.ensures))))
