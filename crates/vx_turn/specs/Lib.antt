pub mod Volumes
pub mod Acting
pub mod History
pub mod Turning
pub mod Resting
pub mod Passing
