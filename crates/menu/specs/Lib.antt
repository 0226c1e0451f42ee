pub mod Accepted
pub mod Holds
pub mod Keys
pub mod Listing
pub mod Offers
