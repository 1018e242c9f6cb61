pub mod Exact
pub mod Mirror
