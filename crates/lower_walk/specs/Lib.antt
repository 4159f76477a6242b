pub mod Log
pub mod Held
pub mod Exprs
pub mod Stmts
pub mod Grown
pub mod Layout
