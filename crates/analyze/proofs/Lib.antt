pub mod Answering
pub mod Knowing
pub mod Turning
