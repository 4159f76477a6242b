-- For the proofs of other crates: `Rows` says that a number which is no kind has no row.
mod Entries
mod Fields
pub mod Rows
