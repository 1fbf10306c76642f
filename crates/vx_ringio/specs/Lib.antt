pub mod Bodies
pub mod Classes
pub mod Reading
pub mod Tracks
