-- What an operand's tests come to: number 0 and the elements, or a refusal's number.
use Rattle.std.specs.Prelude.{ℕ}
use Rattle.operands.specs.declared.Elements.{Elements}

pub record Located : Type 0 where
  pub number : ℕ
  pub elements : Elements
