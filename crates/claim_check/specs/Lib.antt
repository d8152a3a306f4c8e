pub use Rattle.claim_plan.specs.CheckPlan
pub mod Finds
pub mod Plies
pub mod Programs
pub mod Ready
pub mod Replies
pub mod Reduced
pub mod Check
