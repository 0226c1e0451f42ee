pub mod Bids
pub mod Maps
pub mod Rooms
