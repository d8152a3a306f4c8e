pub mod LetterBits
pub mod Repeats
pub mod Spelling
