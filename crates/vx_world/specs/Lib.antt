pub mod Answers
pub mod Confirming
pub mod Counted
pub mod Grown
pub mod Twins
pub mod Lines
pub mod Comings
