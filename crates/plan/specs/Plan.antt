-- What an instruction's tests come to: number 0 and what a run needs of it, or a refusal's number with what it tells.
use Rattle.std.specs.Prelude.{ℕ}
use Rattle.refusal.specs.declared.Detail.{Detail}
use Rattle.field_groups.specs.declared.Control.{Control}
use Rattle.operands.specs.declared.Elements.{Elements}
use Rattle.plan.specs.Operation.{Operation}

pub record Plan : Type 0 where
  pub number : ℕ
  pub detail : Detail
  pub operation : Operation
  pub control : Control
  pub bits : ℕ
  pub left : Elements
  pub right : Elements
  pub payload : Elements
  pub bytes : ℕ
  pub channels : ℕ
  pub stride : ℕ
  pub start : ℕ
  pub length : ℕ
