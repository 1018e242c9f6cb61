pub mod Regions
pub mod Reach
pub mod Mirror
pub mod Positions
