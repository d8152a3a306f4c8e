pub mod FirstSteps
mod Zips
mod Rooms
mod UnwonParts
mod SetsInto
pub mod UnwonTables
mod AnyMoves
pub mod Matches
pub mod Defending
pub mod Fitting
