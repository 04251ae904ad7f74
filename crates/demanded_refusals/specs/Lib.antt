pub mod Ends
pub mod Formed
pub mod Refused
pub mod RefusalOrder
