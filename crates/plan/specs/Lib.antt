pub mod Operation
pub mod Part
pub mod Plan
pub mod Control
pub mod Plans
pub mod Planned
pub mod Checked
pub mod Places
