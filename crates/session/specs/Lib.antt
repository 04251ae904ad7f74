pub mod Replay
pub mod Feeding
pub mod Session
pub mod Closing
