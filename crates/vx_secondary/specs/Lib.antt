pub mod Answers
pub mod Logging
pub mod Overs
pub mod Receivers
