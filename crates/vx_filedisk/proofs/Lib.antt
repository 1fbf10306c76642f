pub mod Hosts
pub mod Answering
