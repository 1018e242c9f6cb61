pub mod UnreadBits
pub mod Theorem
pub mod Plain
