pub mod Sets
pub mod Centre
pub mod AtLast
pub mod Growth
pub mod Tables
pub mod Refuge
pub mod Forces
pub mod Laws
