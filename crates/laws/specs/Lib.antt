pub mod Bytes
pub mod Answer
