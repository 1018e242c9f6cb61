pub mod Encoding
pub mod Mirror
