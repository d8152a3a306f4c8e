pub mod Decide
pub mod Drill
pub mod First
pub mod Least
