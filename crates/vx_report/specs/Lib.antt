pub mod BlockText
pub mod GroupRoom
pub mod KeptText
pub mod Refusals
pub mod StatusWords
pub mod Statuses
pub mod Words
