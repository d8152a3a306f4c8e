pub mod FirstFault
pub mod One
pub mod TextEnds
pub mod TextRows
pub mod Writing
