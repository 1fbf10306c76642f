pub mod Planning
pub mod Writing
pub mod Draining
pub mod Working
pub mod Laying
pub mod Joining
