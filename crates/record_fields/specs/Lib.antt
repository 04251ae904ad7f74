pub mod Part
pub mod Kinds
