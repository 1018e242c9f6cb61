pub mod All
pub mod Every
pub mod BelowAlike
