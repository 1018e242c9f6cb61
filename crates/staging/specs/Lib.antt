pub mod Lanes
pub mod Sources
pub mod Results
pub mod Mirror
pub mod Staged
