-- States to which words lead: lemmas of auto_core, by the name under which crates above cite them.
pub use Rattle.auto_core.proofs.States.{run_within, state_within}
