pub mod Criticals
pub mod Efficient
pub mod Rounds
pub mod Seating
