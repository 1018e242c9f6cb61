pub mod Mirror
