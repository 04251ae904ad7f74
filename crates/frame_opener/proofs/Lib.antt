pub mod Bounds
pub mod Scanning
