pub mod Predicates
pub mod Borrowed
