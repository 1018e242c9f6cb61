pub mod Frames
pub mod BadLine
pub mod Case
pub mod Output
pub mod Verdict
pub mod Forms
pub mod SameAnswer
pub mod OldFrames
