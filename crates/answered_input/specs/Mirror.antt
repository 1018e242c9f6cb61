pub mod Ended
pub mod PutsAnswer
