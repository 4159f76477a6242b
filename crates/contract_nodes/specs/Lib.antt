pub mod Ready
pub mod Nodes
pub mod ByKind
