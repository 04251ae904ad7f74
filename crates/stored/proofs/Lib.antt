pub mod Keeping
pub mod Filled
pub mod RoundTrip
