pub mod State
pub mod Step
pub mod Borrowed
pub mod Mirror
pub mod Leaves
pub mod FirstFailing
pub mod Tells
pub mod Completes
