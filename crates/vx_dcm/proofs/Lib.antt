pub mod Places
pub mod Tallies
pub mod RunMarks
pub mod SlotMarks
pub mod Fits
pub mod Steps
pub mod JoinMarks
