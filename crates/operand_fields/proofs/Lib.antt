pub mod Parsed
pub mod There
pub mod LayoutLaws
