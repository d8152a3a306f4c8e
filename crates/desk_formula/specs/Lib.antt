pub mod Answer
pub mod Arith
