pub mod Offsets
pub mod Positions
pub mod Standing
pub mod Definitions
pub mod Nodes
