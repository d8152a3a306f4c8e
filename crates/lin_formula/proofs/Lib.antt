pub mod Coincide
pub mod Equality
pub mod FreeVars
