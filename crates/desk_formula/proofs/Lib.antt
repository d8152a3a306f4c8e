pub mod Answered
pub mod FirstLine
pub mod Once
