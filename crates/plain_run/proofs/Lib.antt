pub mod PlainRunLaws
