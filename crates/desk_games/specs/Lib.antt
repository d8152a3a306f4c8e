pub mod Defend
pub mod Play
pub mod Resume
