pub mod Fields
pub mod Raw
pub mod Immediate
