pub mod Opener
pub mod Opened
