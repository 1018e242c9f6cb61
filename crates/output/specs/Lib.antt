pub mod Output
pub mod Mirror
