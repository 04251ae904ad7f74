pub mod Parameters
pub mod Base
