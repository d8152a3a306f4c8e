pub use Rattle.auto_core.specs.Automaton
pub use Rattle.auto_core.specs.Reduced
pub use Rattle.auto_walk.specs.Walker
pub use Rattle.auto_bool.specs.Words
