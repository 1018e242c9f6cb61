pub mod Bounds
pub mod ReachLaws
pub mod RegionLaws
pub mod GridLaws
pub mod PositionLaws
pub mod Edges
