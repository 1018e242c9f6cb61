pub mod TwoRuns
pub mod Plain
