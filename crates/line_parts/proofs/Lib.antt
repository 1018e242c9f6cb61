pub mod EndLaws
pub mod BracesLaws
pub mod PartsLaws
pub mod LengthLaws
pub mod BoundLaws
