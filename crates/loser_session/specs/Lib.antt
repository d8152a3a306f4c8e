pub mod FirstSteps
pub mod Unwon
pub mod Leading
pub mod Defending
pub mod Laws
