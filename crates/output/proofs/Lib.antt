pub mod PageLaws
pub mod PlaceLaws
pub mod NumberLaws
pub mod LineLaws
pub mod WholeLaws
pub mod LengthLaws
pub mod Edges
