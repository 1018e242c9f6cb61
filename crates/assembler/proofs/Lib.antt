pub mod EncodedLaws
pub mod WritingLaws
pub mod WholeLaws
