pub mod Time
pub mod Passing
pub mod Later
