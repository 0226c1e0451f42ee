pub mod Criticals
pub mod Ranks
pub mod Renewed
pub mod TurnedAway
