pub mod Lines
pub mod Issuing
