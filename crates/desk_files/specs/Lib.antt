pub mod Check
pub mod FileLines
pub mod FileClaim
pub mod Keep
pub mod Keeping
pub mod Migrate
