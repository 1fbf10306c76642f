pub mod Codes
pub mod Complete
pub mod Ends
pub mod Reading
pub mod Runs
pub mod Texts
pub mod Turns
pub mod Words
