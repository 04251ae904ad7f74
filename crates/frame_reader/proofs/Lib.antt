pub mod Common
pub mod Claims
pub mod Head
pub mod Whole
pub mod Scanning
pub mod Bounds
