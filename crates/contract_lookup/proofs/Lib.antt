mod Backwards
mod FieldWalks
pub mod Lasts
pub mod Placing
mod Storing
pub mod Symbolic
