pub mod Types
pub mod Bindings
pub mod Names
pub mod Env
