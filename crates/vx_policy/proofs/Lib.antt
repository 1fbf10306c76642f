pub mod Rest
pub mod Room
