pub mod Bytes
pub mod Copies
pub mod Ends
pub mod Parses
pub mod Reached
pub mod Rows
pub mod Runs
