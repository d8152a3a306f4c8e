pub mod Names
pub mod OneOrder
pub mod Words
