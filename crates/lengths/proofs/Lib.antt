pub mod Limits
pub mod Edges
