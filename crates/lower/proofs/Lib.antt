pub mod Answering
pub mod Fill
pub mod Placing
