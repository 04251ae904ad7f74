pub mod AnyPieces
pub mod ClosedLines
