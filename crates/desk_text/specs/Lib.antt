pub mod Taken
pub mod Text
pub mod TextLaws
pub mod TextRead
