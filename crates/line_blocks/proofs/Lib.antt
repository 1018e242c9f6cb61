pub mod TakeLaws
pub mod PushLaws
pub mod PartLaws
pub mod RowLaws
pub mod TextOutLaws
