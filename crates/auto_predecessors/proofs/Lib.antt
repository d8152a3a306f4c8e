pub mod RowNodes
pub mod Placed
pub mod Climbs
