pub mod TrackLemmas
pub mod SideLemmas
pub mod AbsorbedPairs
pub mod PairLemmas
pub mod Spreads
pub mod OperandLemmas
pub mod SingleStates
pub mod Complements
mod StayingStates
