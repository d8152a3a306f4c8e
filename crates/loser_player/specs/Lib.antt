pub mod LoserRules
pub mod Laws
pub mod Playable
