pub mod Located
pub mod Allowed
pub mod Variables
pub mod Elements
pub mod Operands
