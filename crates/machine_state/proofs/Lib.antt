pub mod Frames
pub mod Running
pub mod Asking
pub mod Blocks
