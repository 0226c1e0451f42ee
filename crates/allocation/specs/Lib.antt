pub mod Assignment
pub mod Offers
pub mod Screens
pub mod Selection
pub mod Stages
pub mod Ties
pub mod Totals
