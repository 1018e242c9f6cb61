pub mod PassedLaws
