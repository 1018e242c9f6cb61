-- `listing::list_step` meets its contract.
use Rattle.std.proofs.Common.{arith}
use Rattle.listing.proofs.WholeLaws.{step-goes}
use Rattle.listing.proofs.list_step.Goals as goal

pub returns : goal.returns
returns c =
    step-goes _ _ c.args.kernel.now c.first.result.now _ _ c.args.s _ _ (λ k. omega (arith, c.type_inv.kernel k)) c.first.ensures c.requires.at_in_bounds c.requires.out_in_bounds c.list_instruction-step.ensures
