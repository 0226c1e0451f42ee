pub mod Sales
