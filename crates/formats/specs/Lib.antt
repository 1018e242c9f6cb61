pub mod Text
pub mod Format
pub mod Words
pub mod Numerals
pub mod Numbers
pub mod Whole
pub mod Told
pub mod Mirror
