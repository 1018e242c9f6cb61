pub mod RegionWord
pub mod RegionRules
