pub mod Blanks
pub mod Signed
