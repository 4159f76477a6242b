pub mod Bounds
pub mod Limits
pub mod Small
pub mod Back
pub mod Written
