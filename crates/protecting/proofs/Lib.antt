pub mod Protects
