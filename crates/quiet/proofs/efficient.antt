pub mod Decides
pub mod Holding
pub mod Moves
pub mod Order
pub mod Start
