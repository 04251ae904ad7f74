pub mod Finding
pub mod Judged
