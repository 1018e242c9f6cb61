-- A plan that the executors' guards let pass. Every plan of a decoded and checked instruction is one, whatever the tables hold
-- (`proofs/FitsLaws.antt`).
use Rattle.std.specs.Prelude.{◌≡◌, Bool, true}
use Rattle.plan.specs.Plan.{Plan}
use Rattle.plan.specs.Operation.{Operation}
use Rattle.plan.specs.Operation as operation
use Rattle.shl.specs.Mirror.Guarded.{shl_fits}
use Rattle.gather.specs.Mirror.Guarded.{gather_fits}
use Rattle.scatter.specs.Mirror.Guarded.{scatter_fits}

unfoldable pub fits_for : Operation → Plan → Bool
fits_for operation.Shl p = shl_fits p
fits_for operation.Gather p = gather_fits p
fits_for operation.Scatter p = scatter_fits p
fits_for operation.Refused p = true

-- nothing is asked of a refusal
pub record Fits (p : Plan) : Type 0 where
  pub when-accepted : p.number ≡ 0 → fits_for p.operation p ≡ true
