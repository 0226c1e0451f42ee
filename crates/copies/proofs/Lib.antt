pub mod Comparing
pub mod Tables
pub mod Pasting
