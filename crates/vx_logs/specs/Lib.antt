pub mod Held
pub mod Dirtying
pub mod Noting
pub mod Marks
pub mod Writes
