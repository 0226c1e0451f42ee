pub mod Filling
pub mod Laid
pub mod Passes
pub mod Put
pub mod Taken
pub mod Wrote
