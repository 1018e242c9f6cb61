pub mod Bounds
pub mod AllowedLaws
pub mod SizeLaws
pub mod LocatedLaws
pub mod Edges
