pub mod PlainRun
pub mod Mirror
