mod Asked
mod BestKey
mod Gained
mod Gaining
mod Rivals
