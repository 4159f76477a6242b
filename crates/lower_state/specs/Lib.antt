pub mod Errors
pub mod Answers
pub mod Bytes
pub mod State
pub mod Restored
