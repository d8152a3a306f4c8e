pub mod FirstMembers
pub mod RunLemmas
pub mod RestLemmas
pub mod Differences
pub mod Starts
pub mod Ones
pub mod Exclusion
pub mod Told
