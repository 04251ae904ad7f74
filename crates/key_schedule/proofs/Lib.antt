pub mod Words
pub mod Phases
pub mod Fours
pub mod Expansion
