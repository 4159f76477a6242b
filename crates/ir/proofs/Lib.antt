pub mod Codes
pub mod Exits
