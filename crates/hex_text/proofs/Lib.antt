pub mod DigitLaws
pub mod ByteLaws
pub mod StoringLaws
