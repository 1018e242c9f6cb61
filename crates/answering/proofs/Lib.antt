pub mod CutLaws
pub mod SizeLaws
pub mod SamePage
pub mod WrittenLaws
pub mod PutsLaws
pub mod BenchLaws
