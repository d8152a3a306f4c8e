pub mod Readings
pub mod Searches
pub mod MaskLemmas
pub mod Sides
pub mod LengthLemmas
pub mod GreatestLemmas
pub mod Ones
