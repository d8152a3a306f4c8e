pub mod PartFacts
pub mod SetFacts
pub mod Reaches
pub mod Games
pub mod Keeps
pub mod Once
