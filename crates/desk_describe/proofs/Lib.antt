pub mod Alike
pub mod AllTold
pub mod OneRay
pub mod Rays
pub mod Rows
pub mod Texts
