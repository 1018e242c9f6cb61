pub mod CopyRoom
pub mod FourSet
