pub mod Content
pub mod Fields
pub mod Layout
pub mod Lent
pub mod Rows
pub mod Shortest
