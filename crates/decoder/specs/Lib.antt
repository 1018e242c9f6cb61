pub mod Decoding
pub mod Format
