pub mod Steps
pub mod Products
