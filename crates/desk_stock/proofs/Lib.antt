pub mod RoundTrip
pub mod TextSteps
