pub mod Guarded
pub mod FromRoom
