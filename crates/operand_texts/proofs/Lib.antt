pub mod RegionLaws
pub mod GeneralLaws
pub mod OperandLaws
pub mod LengthLaws
pub mod PrintLaws
pub mod BoundLaws
pub mod ReadLaws
pub mod Edges
