pub mod ExecLaws
pub mod ExecTable
pub mod Edges
