pub mod Exporting
pub mod Places
