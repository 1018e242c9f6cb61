pub mod SurfacePlaces
pub mod Edges
