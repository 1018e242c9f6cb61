pub mod Printing
pub mod Assembling
