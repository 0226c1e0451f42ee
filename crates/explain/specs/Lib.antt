pub mod Codes
pub mod Explained
pub mod Outcomes
