pub mod Indices
pub mod Searching
pub mod Counting
pub mod Walking
