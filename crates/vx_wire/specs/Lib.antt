pub mod Numbers
pub mod Places
pub mod Fields
pub mod Seals
