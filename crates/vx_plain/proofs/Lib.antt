pub mod Shutting
pub mod Planning
pub mod Logged
pub mod Taken
