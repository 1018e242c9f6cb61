pub mod Region
pub mod General
pub mod Operand
pub mod Roles
