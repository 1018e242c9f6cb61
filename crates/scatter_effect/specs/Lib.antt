pub mod Scatter
pub mod Results
pub mod Offending
