pub mod Fetching
pub mod Raised
pub mod Rises
pub mod Shown
