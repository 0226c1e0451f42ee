pub mod Acceptance
pub mod Cells
pub mod Walks
