pub mod Accepts
pub mod Clears
pub mod Posts
pub mod Reads
pub mod ReadsCsv
pub mod Rows
pub mod Writes
