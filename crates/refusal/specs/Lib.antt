pub mod Details
pub mod Numbers
