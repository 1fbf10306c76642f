pub mod Causes
pub mod Labelling
pub mod Putting
pub mod Orders
pub mod Settling
