mod Defended
pub mod Playing
pub mod Resuming
pub mod Rows
