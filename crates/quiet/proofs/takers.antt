pub mod Takers
