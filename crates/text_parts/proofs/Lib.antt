pub mod FieldLaws
pub mod RawLaws
pub mod ImmediateLaws
pub mod BoundLaws
pub mod Edges
pub mod LengthLaws
pub mod PrintLaws
