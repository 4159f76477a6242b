pub mod Calls
pub mod Typed
