pub mod OneRegionRule
pub mod OneRegionRun
pub mod Given
pub mod Uncounted
pub mod PastCount
pub mod ExecBits
pub mod RegistersOf32
pub mod RunOf32
