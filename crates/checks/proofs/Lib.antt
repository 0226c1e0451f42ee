mod Accepted
pub mod Ranges
