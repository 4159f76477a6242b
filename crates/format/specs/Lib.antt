pub mod Kinds
pub mod Operators
pub mod Contexts
