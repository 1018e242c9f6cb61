pub mod PrintingLaws
pub mod AssemblingLaws
pub mod RefusedAlike
pub mod ReadBack
pub mod Worked
