pub mod Reduced
