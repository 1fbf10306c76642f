pub mod Sources
pub mod Picks
pub mod Copies
pub mod Gathers
