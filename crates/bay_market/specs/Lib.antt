pub mod LaidOut
pub mod Tells
pub mod Version
