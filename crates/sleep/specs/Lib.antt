pub mod Sleep
pub mod Counts
