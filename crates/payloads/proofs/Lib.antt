pub mod ChannelLaws
pub mod Edges
