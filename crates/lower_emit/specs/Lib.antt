pub mod Args
pub mod Emitted
