pub mod Accounts
pub mod Plans
pub mod Room
pub mod Settling
