pub mod Peers
pub mod Bringing
