pub mod KingLemmas
pub mod StockLemmas
pub mod WriterLemmas
