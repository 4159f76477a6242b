-- For the proofs of other crates: `Nodes` opens a record of a sheet that passed, and says where its children start and what its fields are; `Standing`
-- has what a node keeps of a check.
mod Bodies
mod Checks
pub mod Contracts
mod Counts
mod Ends
mod Heads
pub mod Nodes
mod Patterns
pub mod Standing
mod Widths
mod Within
