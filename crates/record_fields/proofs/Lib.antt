pub mod Joining
pub mod KindsKept
pub mod Placing
pub mod Power
