pub use Rattle.track_word.specs.Word
pub use Rattle.track_word.specs.Tracks
pub use Rattle.letter_diagram.specs.Diagram
pub use Rattle.auto_core.specs.Automaton
pub use Rattle.auto_core.specs.Reduced
pub mod Walker
pub mod Rows
pub mod Residue
