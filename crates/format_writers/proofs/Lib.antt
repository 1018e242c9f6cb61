pub mod StartLaws
pub mod WritingLaws
pub mod PageLaws
pub mod DigitLaws
pub mod Edges
