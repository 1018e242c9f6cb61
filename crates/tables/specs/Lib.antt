pub mod Variables
pub mod Tables
pub mod Borrowed
