-- What `check` promises of a gather's plan is what the guard asks.
use Rattle.std.proofs.Common.{◌≡◌, ◌≤◌, true, arith}
use Rattle.exec_byte.specs.Exec.{exec_size}
use Rattle.field_groups.specs.declared.Control.{Control}
use Rattle.operands.specs.declared.TypeRule.TheVariants as rule
use Rattle.plan.specs.Plan.{Plan}
use Rattle.plan.specs.Operation as operation
use Rattle.plan.proofs.InstructionLaws.{Keeps}
use Rattle.staging.proofs.FitLaws.{elements-fit}
use Rattle.gather.specs.Mirror.Guarded.{gather_fits}

pub sound-fits : (p : Plan) (c : Control) → Keeps operation.Gather c rule.Offset rule.Dword 0 p → gather_fits p ≡ true
unfolding gather_fits
sound-fits p c k =
    let lanes = exec_size p.control.exec in
    let few : lanes ≤ 32 = rw k.control k.lanes in
    rw (
      elements-fit 4 p.left lanes few (omega (arith, k.left)),
      elements-fit 4 p.right lanes few (omega (arith, k.right)),
    )
