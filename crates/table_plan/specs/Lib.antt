pub mod Table
pub mod TableMeans
pub mod Once
