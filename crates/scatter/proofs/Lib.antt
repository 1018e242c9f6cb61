pub mod TargetLaws
pub mod OrderLaws
pub mod NeededLaws
pub mod RoomLaws
pub mod GuardLaws
pub mod SameWrites
pub mod SoundLaws
