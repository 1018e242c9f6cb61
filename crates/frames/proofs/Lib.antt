pub mod FrameLaws
pub mod Stays
