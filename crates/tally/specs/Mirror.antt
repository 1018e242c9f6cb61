pub mod Kinds
pub mod Reading
pub mod Lent
pub mod Lines
pub mod Verdicts
