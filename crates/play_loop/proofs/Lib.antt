pub mod Fronts
pub mod GameSteps
pub mod Reports
pub mod TurnLemmas
pub mod Turning
pub mod Typing
pub mod Walks
