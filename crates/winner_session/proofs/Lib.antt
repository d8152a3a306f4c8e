pub mod Held
pub mod Games
pub mod FirstLemmas
pub mod Movers
pub mod Known
