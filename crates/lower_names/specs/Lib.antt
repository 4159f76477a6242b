pub mod Back
pub mod HeldNames
pub mod Scopes
pub mod Stated
