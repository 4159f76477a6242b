pub mod Names
pub mod Statements
