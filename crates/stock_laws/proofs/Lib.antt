pub mod AfterMoves
pub mod AlikeGames
pub mod LiveLists
