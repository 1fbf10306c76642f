pub mod Steps
pub mod Rooms
pub mod Writings
pub mod Waits
pub mod Overs
