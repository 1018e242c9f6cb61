pub mod EndLaws
pub mod KeptLaws
pub mod StayLaws
pub mod PartLaws
pub mod FeedingLaws
pub mod TextLaws
pub mod Edges
