pub mod Listed
pub mod Written
