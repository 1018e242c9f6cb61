pub mod PredicateCounts
pub mod Edges
