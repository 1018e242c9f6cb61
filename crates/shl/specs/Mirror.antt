pub mod FromRoom
pub mod Guarded
