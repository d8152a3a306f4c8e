mod Drafted
mod NoText
pub mod Rows
