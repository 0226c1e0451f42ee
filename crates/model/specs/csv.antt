pub mod Content
pub mod Faults
pub mod Places
pub mod Text
