pub mod Braces
pub mod Parts
pub mod Pieces
