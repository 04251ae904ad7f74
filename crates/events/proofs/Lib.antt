pub mod NoAnswerBytes
pub mod Performed
