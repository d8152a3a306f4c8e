pub mod Laws
pub mod WinnerRules
pub mod Playable
