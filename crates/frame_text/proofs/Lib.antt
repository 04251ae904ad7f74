pub mod Said
pub mod Lines
pub mod Taking
