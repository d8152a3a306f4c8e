pub mod Compacted
