pub mod Game
pub mod Rays
