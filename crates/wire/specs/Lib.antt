pub mod Signing
pub mod Shape
