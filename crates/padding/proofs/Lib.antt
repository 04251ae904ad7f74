pub mod Laying
pub mod Padded
