pub mod Mirror
pub mod Texts
