pub mod ArgSteps
pub mod CallSteps
pub mod ExprSteps
