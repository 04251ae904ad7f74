pub mod Limbs
