pub mod WalkLemmas
pub mod RowLemmas
pub mod WalkWords
pub mod ResidueLemmas
pub mod States
