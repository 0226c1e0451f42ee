pub mod Changes
pub mod Gains
pub mod Tried
