pub mod LinesOf
pub mod Mirror
