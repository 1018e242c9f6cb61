pub mod WindowLaws
pub mod SearchLaws
