pub mod AnswersLaws
pub mod NoneLaws
