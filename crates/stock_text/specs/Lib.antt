pub mod Kings
pub mod Laws
pub mod Progress
pub mod Stock
pub mod StockText
pub mod Storage
