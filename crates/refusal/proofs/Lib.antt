pub mod AlikeLaws
pub mod OperandLaws
pub mod RuleLaws
