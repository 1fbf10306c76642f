pub mod Places
pub mod Free
pub mod Reaches
pub mod Space
pub mod Runs
pub mod Steps
pub mod Made
