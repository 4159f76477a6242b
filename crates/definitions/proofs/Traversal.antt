pub mod Keeps
pub mod Lowering
