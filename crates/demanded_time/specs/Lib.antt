pub mod Time
pub mod Reach
pub mod RingLasts
pub mod ConsentLasts
pub mod SleepUntil
