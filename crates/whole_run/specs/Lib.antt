pub mod WholeRun
