-- The state that a longer word leads to: a lemma of auto_core, by the name under which crates above cite it.
pub use Rattle.auto_core.proofs.States.{state_of-append}
