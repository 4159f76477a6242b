pub mod Appending
pub mod Blanks
pub mod Items
pub mod Spans
