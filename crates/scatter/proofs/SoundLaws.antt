-- What `check` promises of a scatter's plan, in 16 lanes at most and with channels at most 16 dwords apart, is what the guard asks.
use Rattle.std.proofs.Common.{◌≡◌, ℕ, ◌≤◌, true, arith, le-leb}
use Rattle.exec_byte.specs.Exec.{exec_size}
use Rattle.field_groups.specs.declared.Control.{Control}
use Rattle.operands.specs.declared.TypeRule.TheVariants as rule
use Rattle.plan.specs.Plan.{Plan}
use Rattle.plan.specs.Operation as operation
use Rattle.plan.proofs.InstructionLaws.{Keeps}
use Rattle.staging.proofs.FitLaws.{elements-fit}
use Rattle.scatter.specs.Mirror.Guarded.{scatter_fits}

pub sound-fits : (p : Plan) (c : Control) (stride : ℕ) → exec_size c.exec ≤ 16 → stride ≤ 16 → Keeps operation.Scatter c rule.Address rule.Dword stride p → scatter_fits p ≡ true
unfolding scatter_fits
sound-fits p c stride sixteen near k =
    let lanes = exec_size p.control.exec in
    let few : lanes ≤ 16 = rw k.control sixteen in
    rw (
      le-leb lanes 16 few,
      le-leb p.stride 16 (omega (arith, near, k.stride-is)),
      elements-fit 8 p.left lanes (omega arith) (omega (arith, k.left)),
      elements-fit 8 p.right lanes (omega arith) (omega (arith, k.right)),
    )
