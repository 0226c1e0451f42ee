pub mod EntryPoints
pub mod Lent
pub mod Prints
pub mod Rows
pub mod Steps
