pub mod Word
pub mod Tracks
pub mod Atom
