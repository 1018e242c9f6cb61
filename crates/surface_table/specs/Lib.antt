pub mod Surfaces
pub mod Borrowed
