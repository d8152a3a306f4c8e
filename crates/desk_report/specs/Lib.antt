pub mod ByLines
pub mod Codes
pub mod FaultLines
pub mod OfText
pub mod Outcome
pub mod Ports
