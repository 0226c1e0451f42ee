pub mod Bids
pub mod Rows
