pub mod Plexes
pub mod Volumes
pub mod Sets
pub mod Steps
pub mod Copies
