pub mod Setting
pub mod Forms
pub mod Puts
pub mod Bench
