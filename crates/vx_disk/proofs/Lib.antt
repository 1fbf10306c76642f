pub mod Alikes
pub mod Blocks
pub mod Burning
pub mod Causing
pub mod Changes
pub mod Crashes
pub mod DiskChanges
pub mod Fits
pub mod Flags
mod Kept
pub mod Moving
pub mod Naming
pub mod Pasts
pub mod Runs
pub mod Same
pub mod Spending
pub mod Stops
pub mod Untouching
