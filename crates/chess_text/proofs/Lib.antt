pub mod Pairs
pub mod PositionLemmas
pub mod ReplyLemmas
pub mod Spellings
pub mod TextLemmas
