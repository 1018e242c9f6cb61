pub mod SplitLaws
pub mod FirstRule
pub mod Edges
