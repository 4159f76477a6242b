mod Spaced
pub mod Zeros
mod Hexed
pub mod Cut
mod Examples
