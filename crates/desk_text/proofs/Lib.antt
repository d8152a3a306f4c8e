pub mod MoreLines
pub mod OneText
pub mod RoundTrip
pub mod Said
pub mod TextSteps
