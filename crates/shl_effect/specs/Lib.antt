pub mod Shl
pub mod Results
