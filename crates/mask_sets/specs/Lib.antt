pub mod Tuple
pub mod Stock
pub mod Sets
pub mod Places
