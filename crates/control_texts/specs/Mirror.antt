pub mod Predicate
pub mod Exec
