pub mod Fitting
pub mod SignatureSteps
pub mod Turns
