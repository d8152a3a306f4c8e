mod ValueLemmas
mod SeatLemmas
mod LineLemmas
mod MaskLemmas
mod MoverLemmas
mod AfterLemmas
mod DistanceLemmas
mod SizeLemmas
mod FreeLemmas
mod TableLemmas
mod SetLemmas
mod ChainLemmas
pub mod LawLemmas
