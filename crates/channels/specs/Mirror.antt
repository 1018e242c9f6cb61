pub mod Prepared
