pub mod Simulation
pub mod Whole
pub mod Fuel
pub mod Within
pub mod Kept
pub mod RunLaws
