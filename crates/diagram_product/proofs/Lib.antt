pub mod Absorptions
pub mod Readings
pub mod SidedPairs
