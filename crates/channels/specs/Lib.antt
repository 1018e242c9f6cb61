pub mod Lanes
pub mod Mirror
