pub mod Exec
pub mod ExecTable
pub mod Mirror
