pub mod Pairs
pub mod Paired
pub mod Absorbed
pub mod Sided
pub mod Product
pub mod Shapes
