pub mod Selection
pub mod Winners
