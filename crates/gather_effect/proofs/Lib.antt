pub mod MarkLaws
pub mod LaneResults
pub mod Plain
pub mod Refusal
pub mod Untainted
