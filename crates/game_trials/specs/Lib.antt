pub mod Kings
