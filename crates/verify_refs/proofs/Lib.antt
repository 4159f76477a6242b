pub mod Values
pub mod Types
