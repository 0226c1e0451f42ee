pub mod Charges
pub mod CutAsk
pub mod Sales
