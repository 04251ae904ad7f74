pub mod Types
pub mod Ringable
pub mod Refusals
pub mod Change
pub mod WellFormed
pub mod Outcome
