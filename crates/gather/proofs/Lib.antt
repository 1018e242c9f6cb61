pub mod CountLaws
pub mod DwordLaws
pub mod RoomLaws
pub mod GuardLaws
pub mod SoundLaws
