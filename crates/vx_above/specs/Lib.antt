pub mod OwnDisks
pub mod Seen
pub mod Views
