pub mod RoomLaws
pub mod GuardLaws
pub mod SoundLaws
