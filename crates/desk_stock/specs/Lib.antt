pub mod StockAt
pub mod StockLaws
pub mod StockRead
