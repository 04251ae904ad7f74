pub mod Power
pub mod Lines
pub mod Kept
pub mod Ends
pub mod Masks
