pub mod Bytes
pub mod Marks
pub mod Blocks
pub mod Runs
pub mod Loads
