pub mod Reader
pub mod Scanned
