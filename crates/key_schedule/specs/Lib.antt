pub mod Expansion
pub mod Fours
