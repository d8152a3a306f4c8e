pub mod Drilled
pub mod Listing
pub mod Passed
pub mod Rooks
pub mod Rows
