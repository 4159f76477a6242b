pub mod Fits
pub mod Back
pub mod RoundTrip
pub mod Contents
pub mod Lowered
pub mod Written
