pub mod Labels
pub mod Areas
pub mod Copies
pub mod Imports
pub mod Commits
