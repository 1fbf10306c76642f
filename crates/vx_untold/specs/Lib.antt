pub mod Shades
pub mod Untold
