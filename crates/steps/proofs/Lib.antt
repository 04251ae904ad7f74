pub mod State
pub mod Mixing
