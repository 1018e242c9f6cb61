pub mod Tags
pub mod Rules
pub mod Reading
pub mod Layout
pub mod Told
pub mod Reads
