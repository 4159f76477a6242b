pub mod Operands
pub mod Moving
