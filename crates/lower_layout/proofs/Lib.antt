pub mod Storing
pub mod Records
