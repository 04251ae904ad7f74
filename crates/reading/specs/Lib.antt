pub mod Reading
pub mod Values
