pub mod Applies
pub mod Facts
pub mod LinkParts
pub mod Restarts
pub mod Settings
pub mod Writes
