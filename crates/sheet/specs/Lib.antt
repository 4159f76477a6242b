pub mod Forms
pub mod Limits
pub mod Passed
pub mod Starts
