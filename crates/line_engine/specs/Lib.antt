pub use Rattle.game_rules.specs.Game
pub use Rattle.set_plan.specs.Outcome
pub use Rattle.line_plan.specs.Plan
pub mod Crowds
pub mod Nodes
pub mod Answers
pub mod Sizes
pub mod Misses
