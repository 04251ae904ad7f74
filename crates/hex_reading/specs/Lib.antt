pub mod Hex
pub mod HexValues
