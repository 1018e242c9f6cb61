pub mod LineLaws
pub mod Edges
