pub mod Tenths
pub mod Refusing
