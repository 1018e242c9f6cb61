pub mod Gather
pub mod Results
