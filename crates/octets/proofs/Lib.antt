pub mod Pasting
pub mod Numbers
pub mod Gathered
pub mod LowBytes
