pub mod Placement
pub mod Laws
pub mod Edges
