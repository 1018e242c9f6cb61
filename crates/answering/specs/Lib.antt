pub mod Outcome
pub mod Mirror
