pub mod KeyedLines
pub mod ToldLines
