pub mod Event
pub mod Promises
