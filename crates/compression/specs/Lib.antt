pub mod Constants
pub mod Compression
pub mod Turns
