pub mod Errors
pub mod Promises
