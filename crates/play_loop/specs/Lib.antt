pub mod Turns
pub mod LineReport
pub mod Played
pub mod Laws
