pub mod TestLaws
pub mod NumberLaws
pub mod PlaceLaws
pub mod PlanLaws
pub mod PredicateLaws
pub mod InstructionLaws
