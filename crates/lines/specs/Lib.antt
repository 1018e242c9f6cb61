pub mod LineOf
pub mod Reading
pub mod Told
pub mod Claims
pub mod Mirror
