pub mod Reading
pub mod Layout
