pub mod Feeding
pub mod Text
