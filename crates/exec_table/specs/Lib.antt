pub mod ExecLines
