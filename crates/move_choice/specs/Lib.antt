pub mod Choice
pub mod Along
pub mod Aims
pub mod Facts
pub mod Aimed
pub mod Squares
