pub mod RemainderLaws
pub mod SpanLaws
pub mod ExactLaws
pub mod ResidueLaws
pub mod ShiftLaws
