pub mod Game
pub mod Firsts
