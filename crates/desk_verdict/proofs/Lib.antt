pub mod OneStep
pub mod Rows
pub mod Values
