pub mod Laws
pub mod Tagged
