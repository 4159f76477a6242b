mod Lowered
pub mod Cut
mod Examples
