pub mod Chains
pub mod Listing
pub mod Seats
pub mod Slots
