pub mod LeastCount
