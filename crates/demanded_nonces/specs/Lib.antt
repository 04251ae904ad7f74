pub mod Nonces
pub mod NonceRepeats
pub mod Among
