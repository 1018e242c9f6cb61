pub mod Page
pub mod Lent
