pub use Rattle.letter_diagram.specs.Diagram
pub use Rattle.auto_core.specs.Automaton
pub use Rattle.auto_core.specs.Integers
pub use Rattle.auto_core.specs.Reduced
pub use Rattle.auto_core.specs.Rows
pub use Rattle.auto_core.specs.Words
pub mod Compacted
