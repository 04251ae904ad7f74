pub mod Placed
pub mod Hex
pub mod Decimal
