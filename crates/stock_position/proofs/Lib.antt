pub mod LiveMen
pub mod Men
pub mod Reasons
