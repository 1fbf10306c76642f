pub mod Begins
pub mod Closes
pub mod Puts
