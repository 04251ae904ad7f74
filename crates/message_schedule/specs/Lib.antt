pub mod Schedule
pub mod Window
