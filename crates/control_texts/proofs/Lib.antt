pub mod GoodLaws
pub mod PredicateLaws
pub mod ExecLaws
pub mod BoundLaws
pub mod Edges
pub mod LengthLaws
pub mod PrintLaws
