pub mod DecodedLaws
pub mod StepLaws
pub mod LoadLaws
pub mod WholeLaws
