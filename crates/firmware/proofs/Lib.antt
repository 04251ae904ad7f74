pub mod Exporting
pub mod Sleeping
