pub mod Region
pub mod Case
pub mod Table
