pub mod InstrRows
pub mod Walk
pub mod FunctionSteps
pub mod Definitions
pub mod Ascending
pub mod KindNumbers
pub mod Facts
pub mod Takes
