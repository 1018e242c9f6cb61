pub mod BitLaws
pub mod BelowLaws
pub mod LaneLaws
pub mod ReadBits
pub mod Edges
