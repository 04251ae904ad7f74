pub mod FirstWrong
pub mod RoundTrip
pub mod Place
pub mod ReadBack
pub mod Flagged
pub mod WithR
