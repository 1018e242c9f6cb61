-- What `check` promises of SHL's plan is what the guard asks.
use Prim.Native.Nat.{◌≤◌}
use mathlib.Core.Path.{◌≡◌}
use mathlib.Core.Bool.{true}
use borrow.Author.Tests.{le-leb}
use Rattle.exec_byte.specs.Exec.{exec_size}
use Rattle.field_groups.specs.declared.Control.{Control}
use Rattle.operands.specs.declared.TypeRule.TheVariants as rule
use Rattle.plan.specs.Plan.{Plan}
use Rattle.plan.specs.Operation as operation
use Rattle.plan.proofs.InstructionLaws.{Keeps}
use Rattle.staging.proofs.FitLaws.{elements-fit}
use Rattle.shl.specs.Mirror.Guarded.{shl_fits}

pub sound-fits : (p : Plan) (c : Control) → Keeps operation.Shl c rule.Shift rule.Shift 0 p → shl_fits p ≡ true
unfolding shl_fits
sound-fits p c k =
    let lanes = exec_size p.control.exec in
    let few : lanes ≤ 32 = rw k.control k.lanes in
    rw (
      elements-fit 4 p.left lanes few k.left.1,
      elements-fit 4 p.right lanes few k.right.1,
      le-leb p.payload.size 4 k.payload.1,
    )
