pub mod PowerByte
pub mod Judging
