pub mod Accounts
pub mod Book
pub mod Records
