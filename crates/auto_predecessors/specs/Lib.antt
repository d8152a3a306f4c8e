pub use Rattle.letter_diagram.specs.Diagram
pub use Rattle.auto_core.specs.Automaton
pub mod RowNodes
pub mod Ways
