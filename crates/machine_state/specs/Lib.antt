pub mod Owned
pub mod Frames
pub mod Running
