pub mod Indexes
pub mod Pending
pub mod Writes
