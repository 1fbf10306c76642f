pub mod Covers
pub mod Marked
pub mod Rests
