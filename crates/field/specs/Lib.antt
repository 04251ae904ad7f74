pub mod Montgomery
pub mod Forms
