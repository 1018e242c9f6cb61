pub mod Scan
pub mod Digits
