pub mod Hashed
pub mod Laws
pub mod Ending
