pub mod Safe
pub mod Blocks
pub mod Invariant
pub mod Keeping
pub mod Functions
pub mod Verifies
