pub mod Ranges
pub mod Tickets
