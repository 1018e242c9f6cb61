pub mod TextLaws
pub mod WholeLaws
