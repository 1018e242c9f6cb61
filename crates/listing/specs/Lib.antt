pub mod Listing
pub mod Mirror
