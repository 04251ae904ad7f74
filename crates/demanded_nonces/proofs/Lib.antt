pub mod Histories
pub mod WritesOnKeys
pub mod OtherCalls
pub mod KeyPlaces
pub mod WritesOnSound
pub mod CallsOnNonce
pub mod Nonces
pub mod NonceRepeats
