pub mod Counting
pub mod Following
pub mod Hosts
pub mod Laws
pub mod Meanings
pub mod Opening
