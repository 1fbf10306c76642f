pub mod Holds
pub mod Logged
pub mod Tells
pub mod Behind
pub mod Begun
pub mod Copied
