pub mod Sha256
