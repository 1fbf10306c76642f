pub mod Empty
pub mod Since
pub mod Traces
