pub mod Maps
pub mod Product
pub mod Bytes
pub mod Boxes
pub mod BoxLaws
pub mod Linear
