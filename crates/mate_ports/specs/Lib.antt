pub mod InMemory
pub mod Program
