pub mod SetLemmas
pub mod MovedLemmas
pub mod GrowthLemmas
pub mod TableLemmas
pub mod RefugeLemmas
pub mod ForcesLemmas
pub mod CentreLemmas
pub mod MovedRules
