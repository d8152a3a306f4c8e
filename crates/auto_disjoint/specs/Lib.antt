pub use Rattle.track_word.specs.Word
pub use Rattle.track_word.specs.Tracks
pub use Rattle.auto_core.specs.Automaton
pub use Rattle.auto_walk.specs.Walker
pub mod Apart
pub mod Rows
pub mod Met
pub mod Meetings
