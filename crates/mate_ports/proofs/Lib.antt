pub mod Fronts
pub mod InMemory
