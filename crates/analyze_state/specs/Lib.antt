pub mod Errors
pub mod State
