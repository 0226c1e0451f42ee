pub mod ClearsAccepted
pub mod Decided
