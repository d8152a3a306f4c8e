pub mod Live
pub mod Soundness
