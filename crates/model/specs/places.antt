pub mod Bids
pub mod Faults
