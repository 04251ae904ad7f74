pub mod Modulo
pub mod Points
pub mod Curves
pub mod Valid
pub mod Published
