pub mod Confirms
pub mod Finding
pub mod Greets
pub mod Heard
pub mod Leaving
pub mod Links
pub mod Moves
pub mod Pumps
pub mod Shown
mod Loops
mod EachLink
mod ReplayHolds
pub mod LeastHolds
pub mod PartFacts
pub mod Spelling
