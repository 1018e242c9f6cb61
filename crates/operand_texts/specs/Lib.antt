pub mod Texts
pub mod Mirror
