pub mod Asked
pub mod Decimal
pub mod Lines
pub mod MarketText
pub mod Printed
pub mod ReasonsText
pub mod Text
