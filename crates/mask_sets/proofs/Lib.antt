pub mod Lookups
pub mod Men
pub mod Masks
