pub mod Assembling
pub mod Mirror
